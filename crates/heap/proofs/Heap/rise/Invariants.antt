use Rattle.std.proofs.Common.{◌<◌}
use Rattle.heap.specs.Sifts.{Kept, ButAt}
use Rattle.heap.proofs.Heap.rise.Given as goal

abbrev pub invariant-loop-at : goal.invariant-loop-at
invariant-loop-at g l = (l.at < l.self.len) × ButAt g.K.Cost.kind.below l.self l.at × Kept l.initial.self l.self

abbrev pub decreases-loop-at : goal.decreases-loop-at
decreases-loop-at g l = l.at
