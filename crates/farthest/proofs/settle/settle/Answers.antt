use Rattle.std.proofs.Common.{arith}
use Rattle.farthest.proofs.Steps.{rounds_end}
use Rattle.farthest.proofs.settle.settle.Goals as goal

pub returns-then-not-round : goal.returns-then-not-round
returns-then-not-round g c =
    rounds_end g.K.Cost.kind _ c.args.ds.now c.loop.ds c.round.new.ds c.loop.counter _ (omega arith) c.loop.invariant c.round.ensures.after (c.round.ensures.still c.if-not-round.true)
