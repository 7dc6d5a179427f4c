use Rattle.std.proofs.Common.{◌≡◌}
use Rattle.farthest.specs.Trials.{with_outlets}
use Rattle.farthest.proofs.settle.set_outlets.Given as goal

abbrev pub invariant-loop-j : goal.invariant-loop-j
invariant-loop-j g l = l.ds ≡ with_outlets g.K.Cost.kind l.j l.outlets l.initial.ds
