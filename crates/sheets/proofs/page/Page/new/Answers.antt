use Rattle.std.proofs.Common.{sym, refl, subst}
use Rattle.sheets.specs.declared.page.Page.TheVariants.{Money, Crossings}
use Rattle.sheets.specs.Pages.{FreshPage}
use Rattle.sheets.proofs.page.Page.new.Goals as goal

pub returns-in-Money : goal.returns-in-Money
returns-in-Money c =
    subst (λ k. FreshPage c.args.junctions c.args.capacity k (Money c.new.result)) (sym c.in-Money.is) (c.new.result, refl, c.new.ensures)

pub returns-in-Crossings : goal.returns-in-Crossings
returns-in-Crossings c =
    subst (λ k. FreshPage c.args.junctions c.args.capacity k (Crossings c.new-in-Crossings.result)) (sym c.in-Crossings.is) (c.new-in-Crossings.result, refl, c.new-in-Crossings.ensures)
