use Rattle.theory.proofs.Optimal.{floor}
use Rattle.theory.proofs.floor.Goals as goal

pub returns : goal.returns
returns g c = λ l some t bound inv law unsettled m keys S o joins. floor g.met.K.Cost.laws some inv law unsettled m keys S joins
