use Rattle.theory.proofs.Drawing.{deriv_some, deriv_below}
use Rattle.theory.proofs.derives_sets.Goals as goal

pub returns : goal.returns
returns g c = λ l v I c d. (deriv_some d, deriv_below d)
