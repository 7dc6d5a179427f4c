use Rattle.std.proofs.lemmas.Result.{IfOk-from_err}
use Rattle.sheets.proofs.Reporting.{added}
use Rattle.sheets.proofs.trials.add_trial.Goals as goal

pub returns-in_err-push : goal.returns-in_err-push
returns-in_err-push g c = IfOk-from_err _ _ c.from_residual-in_err-push.ensures.0

pub returns : goal.returns
returns g c = added g.K.Cost.kind c.args.sheet.now c.args.tools _ _ _ c.in_ok-trial.ensures c.in_ok-push.ensures.items
