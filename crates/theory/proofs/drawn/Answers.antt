use Rattle.theory.proofs.Drawing.{drawn_joins, drawn_cost}
use Rattle.theory.proofs.drawn.Goals as goal

pub returns : goal.returns
returns g c = λ l v I c d S o s. (drawn_joins d S s, drawn_cost g.met.K.Cost.laws d S o s)
