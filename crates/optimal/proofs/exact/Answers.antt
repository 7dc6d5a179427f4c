use Rattle.optimal.proofs.Rightness.{is_exact}
use Rattle.optimal.proofs.exact.Goals as goal

pub returns : goal.returns
returns g c = λ l bound t given limit. is_exact _ g.met.K.Cost.laws l bound t given limit
