use Rattle.std.proofs.Common.{None, sym, refl, subst}
use Rattle.std.proofs.lemmas.Result.{IfOk-weaker}
use Rattle.sheets.specs.declared.page.Page.TheVariants.{Money, Crossings}
use Rattle.sheets.specs.Pages.{PageNoted}
use Rattle.sheets.proofs.page.Page.skip.Goals as goal

pub returns-in-Money : goal.returns-in-Money
returns-in-Money c =
    let left = c.skip.new.self in
    IfOk-weaker c.skip.result _ _ (λ _ h. subst (λ p. PageNoted p (Money left) c.args.line None) (sym c.in-Money.is) (left, refl, h)) c.skip.ensures

pub returns-in-Crossings : goal.returns-in-Crossings
returns-in-Crossings c =
    let left = c.skip-in-Crossings.new.self in
    IfOk-weaker c.skip-in-Crossings.result _ _ (λ _ h. subst (λ p. PageNoted p (Crossings left) c.args.line None) (sym c.in-Crossings.is) (left, refl, h)) c.skip-in-Crossings.ensures
