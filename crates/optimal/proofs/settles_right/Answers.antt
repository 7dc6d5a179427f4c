use Rattle.optimal.proofs.Rightness.{settles_right}
use Rattle.optimal.proofs.settles_right.Goals as goal

pub returns : goal.returns
returns g c = λ l bound t given limit. settles_right _ g.met.K.Cost.laws l bound t given limit
