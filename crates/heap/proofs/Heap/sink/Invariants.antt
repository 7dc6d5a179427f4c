use Rattle.std.proofs.Common.{◌-◌}
use Rattle.heap.specs.Sifts.{Kept, ButUnder}
use Rattle.heap.proofs.Heap.sink.Given as goal

abbrev pub invariant-loop-at : goal.invariant-loop-at
invariant-loop-at g l = ButUnder g.K.Cost.kind.below l.self l.at × Kept l.initial.self l.self

abbrev pub decreases-loop-at : goal.decreases-loop-at
decreases-loop-at g l = l.initial.self.len - l.at
