use Rattle.queue.proofs.Scan.{LeastTo}
use Rattle.queue.proofs.row.methods.scan.Given as goal

abbrev pub invariant-loop-code : goal.invariant-loop-code
invariant-loop-code g l = LeastTo g.K.Cost.kind.below l.places l.code l.best
