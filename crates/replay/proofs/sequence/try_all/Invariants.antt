use Rattle.district.specs.Model.{model_of}
use Rattle.search.specs.Desks.{Stands}
use Rattle.replay.specs.Calls.{offered}
use Rattle.replay.proofs.Left.{Left}
use Rattle.replay.proofs.sequence.try_all.Given as goal

abbrev pub invariant-loop-i : goal.invariant-loop-i
invariant-loop-i g l = record {
  stands : Stands g.Q.Queue.lender g.Q.Queue.waiting g.E.Estimator.lender g.E.Estimator.within l.initial.desk l.desk;
  left : Left g.Q.Cost.Cost.kind g.E.Estimator.makes (offered g.Q.Queue.waiting g.E.Estimator.within l.initial.desk) (model_of l.initial.district) l.initial.turns (model_of l.district) l.i l.turns;
}
