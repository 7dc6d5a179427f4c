use Rattle.heap.proofs.Made.{emptied_waits}
use Rattle.heap.proofs.Stands.{empty_good}
use Rattle.heap.proofs.methods.HeapQueue.clear.Goals as goal

pub returns : goal.returns
returns g c = record {
  good = empty_good g.K.Cost.kind.below c.empty.new.self c.empty.ensures.lens;
  lends = c.empty.ensures.lends;
  waits = emptied_waits c.args.self.now c.empty.new.self c.empty.ensures;
}
