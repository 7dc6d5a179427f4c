use Rattle.theory.proofs.Front.{front}
use Rattle.theory.proofs.front_bounds.Goals as goal

pub returns : goal.returns
returns g c = λ l t bound inv law. front g.met.K.Cost.laws inv law
