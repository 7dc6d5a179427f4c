use Rattle.std.proofs.Common.{rules}
use Rattle.std.proofs.lemmas.Iterator.{YieldsList-from_slice}
use Rattle.std.proofs.lemmas.Iterator.Search.{find_from_yields_List}
use borrow.Author.Tests.{tests}
use Rattle.sheets.specs.Trials.{reporting}
use Rattle.sheets.proofs.Reporting.{found}
use Rattle.sheets.proofs.trials.find_trial.Goals as goal

pub returns : goal.returns
returns g c =
    let tools = c.args.tools in
    found tools c.args.trials.now c.find.result
    (find_from_yields_List (λ t. reporting tools t.tools) _ _ c.find.result c.find.ensures.ran (YieldsList-from_slice c.args.trials.now cc) (λ x b q k. search (rules, tests)))
