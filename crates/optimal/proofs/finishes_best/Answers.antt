use Rattle.optimal.proofs.Rightness.{finishes_best}
use Rattle.optimal.proofs.finishes_best.Goals as goal

pub returns : goal.returns
returns g c = λ l bound t given limit. finishes_best _ g.met.K.Cost.laws l bound t given limit
