use Rattle.theory.proofs.Decompose.{decomposes}
use Rattle.theory.proofs.decomposes.Goals as goal

pub returns : goal.returns
returns g c = λ l S o. decomposes g.met.K.Cost.laws l S
