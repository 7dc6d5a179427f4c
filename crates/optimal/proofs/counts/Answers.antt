use Rattle.optimal.proofs.Rightness.{counts}
use Rattle.optimal.proofs.counts.Goals as goal

pub returns : goal.returns
returns g c = λ l bound t given limit. counts _ g.met.K.Cost.laws l bound t given limit
