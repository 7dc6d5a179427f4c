use Rattle.theory.proofs.Drawing.{drawing, drawing_open, drawing_same}
use Rattle.theory.proofs.gathers.Goals as goal

pub returns : goal.returns
returns g c = λ l v I c d. (drawing d, drawing_open d, drawing_same d)
