use Rattle.std.proofs.Common.{◌≡◌, drop}
use Rattle.labelling.specs.Tables.{rule}
use Rattle.labelling.specs.Runs.{runs_offered}
use Rattle.labelling.specs.Desks.{tables_on, Kept}
use Rattle.labelling.proofs.desk.Desk.offer_runs.Given as goal

abbrev pub invariant-loop-i : goal.invariant-loop-i
invariant-loop-i g l =
    let r = rule g.Q.Cost.Cost.kind (g.E.Estimator.bound l.initial.self.estimator) l.size in
    Kept r g.Q.Queue.waiting g.Q.Queue.ok g.Q.Queue.lender l.initial.self l.self
    × (runs_offered r l.from l.view.open.now l.i (drop l.i l.view.runs.now) (tables_on l.self) ≡ runs_offered r l.from l.view.open.now 0 l.view.runs.now (tables_on l.initial.self))
