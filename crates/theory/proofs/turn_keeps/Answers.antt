use Rattle.theory.proofs.Front.{turn_keeps}
use Rattle.theory.proofs.turn_keeps.Goals as goal

pub returns : goal.returns
returns g c = λ l t t' bound inv law. turn_keeps g.met.K.Cost.laws inv law
