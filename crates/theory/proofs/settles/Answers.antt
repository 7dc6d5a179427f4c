use Rattle.theory.proofs.Front.{settles}
use Rattle.theory.proofs.settles.Goals as goal

pub returns : goal.returns
returns g c = λ l t bound inv law. settles g.met.K.Cost.laws inv law
