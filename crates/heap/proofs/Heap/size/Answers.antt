use Rattle.std.proofs.Common.{sym, refl}
use Rattle.heap.proofs.Stands.{length_waits}
use Rattle.heap.proofs.Heap.size.Goals as goal

pub returns : goal.returns
returns g c = record { is = refl; counts = sym (length_waits c.args.self.now) }
