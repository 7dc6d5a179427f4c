use Rattle.std.proofs.Common.{eqb, vec_items, sym, ap, ◌∙◌, subst}
use Rattle.sheets.specs.Trials.{Trials}
use Rattle.sheets.proofs.Reporting.{with_usual, all_named, some_trial}
use Rattle.sheets.proofs.trials.try_sheet.Goals as goal

pub returns : goal.returns
returns g c =
    let kind = g.K.Cost.kind in
    let s = c.args.sheet.now in
    let trials = c.in_ok-trials.trials in
    let named = c.in_ok-trials.ensures in
    elim c.if-is_empty.branch [
      | goal.then-is_empty+in_ok-add_trial w ↦ subst (λ v. Trials kind s (vec_items v)) (sym w.trials-is) (with_usual kind s _ _ _ named w.in_ok-add_trial.ensures)
      | goal.else-is_empty w ↦ subst (λ v. Trials kind s (vec_items v)) (sym w.trials-is) (all_named kind s (vec_items trials) (some_trial kind s (vec_items trials) (ap (λ n. eqb n 0) (sym trials.ok.0) ∙ sym w.if-is_empty.ensures)) named)
    ]
