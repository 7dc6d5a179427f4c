use Rattle.heap.proofs.First.{top_least}
use Rattle.heap.proofs.methods.HeapQueue.least.Goals as goal

pub returns : goal.returns
returns g c = top_least g.met.K.Cost.laws c.args.self.now c.requires c.top.result c.top.ensures
