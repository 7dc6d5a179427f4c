use Rattle.std.proofs.Common.{◌≡◌}
use Rattle.farthest.specs.Distances.{farthest}
use Rattle.farthest.specs.Memories.{in_row}
use Rattle.farthest.proofs.farthest.calls.look.Given as goal

abbrev pub invariant-loop-j : goal.invariant-loop-j
invariant-loop-j g l = l.best ≡ farthest g.K.Cost.kind (in_row l.ds) l.v l.set l.j
