use Rattle.optimal.proofs.Rightness.{stops_below}
use Rattle.optimal.proofs.stops_below.Goals as goal

pub returns : goal.returns
returns g c = λ l bound t given limit. stops_below _ g.met.K.Cost.laws l bound t given limit
