use Rattle.cases.proofs.Computed.{cases_hold}
use Rattle.cases.proofs.worked_cases.Goals as goal

pub returns : goal.returns
returns c = cases_hold
