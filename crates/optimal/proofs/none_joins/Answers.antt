use Rattle.optimal.proofs.Rightness.{none_joins}
use Rattle.optimal.proofs.none_joins.Goals as goal

pub returns : goal.returns
returns g c = λ l bound t given limit. none_joins _ g.met.K.Cost.laws l bound t given limit
