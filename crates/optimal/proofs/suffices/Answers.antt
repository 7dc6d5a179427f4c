use Rattle.optimal.proofs.Rightness.{suffices}
use Rattle.optimal.proofs.suffices.Goals as goal

pub returns : goal.returns
returns g c = λ l bound t given limit. suffices _ g.met.K.Cost.laws l bound t given limit
