use Rattle.theory.proofs.Optimal.{hopeless}
use Rattle.theory.proofs.hopeless.Goals as goal

pub returns : goal.returns
returns g c = λ l some t inv none unsettled S o joins. hopeless g.met.K.Cost.laws some inv none unsettled S joins
