use Rattle.std.proofs.Common.{◌∷◌, [], take, vec_items}
use Rattle.commands.specs.declared.command.EstimatorChoice.TheVariants.{Silent, Farthest, Larger}
use Rattle.sheets.proofs.Reporting.{GrownWith}
use Rattle.sheets.proofs.trials.add_queue.Given as goal

abbrev pub invariant-loop-estimator : goal.invariant-loop-estimator
invariant-loop-estimator g l = GrownWith g.K.Cost.kind l.sheet l.queue (take l.estimator-index (Silent ∷ Farthest ∷ Larger ∷ [])) (vec_items l.initial.trials) (vec_items l.trials)
