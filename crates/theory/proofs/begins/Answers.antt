use Rattle.theory.proofs.Front.{begins}
use Rattle.theory.proofs.begins.Goals as goal

pub returns : goal.returns
returns g c = λ l t start. begins g.met.K.Cost.laws start
