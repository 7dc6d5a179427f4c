use Rattle.std.proofs.Common.{◌≡◌, ℕ, Some, None, Option, sym, refl, ap, ◌∙◌, subst}
use Rattle.commands.specs.declared.command.Call.{Call as Line}
use Rattle.commands.specs.declared.command.CostKind.{CostKind}
use Rattle.commands.specs.declared.command.Command.{Command}
use Rattle.commands.specs.declared.command.Command.TheVariants.{District, Call}
use Rattle.sheets.specs.declared.page.Page.{Page}
use Rattle.sheets.specs.Pages.{FreshPage, PageNoted, Read}
use Rattle.morning.proofs.session.take_line.Goals as goal

skipped : (line : ℕ) (o : Option Command) (at : Option Page) (p u : Page) → None ≡ o → at ≡ Some p → PageNoted p u line None → Read line o at (Some u)
skipped line o at p u says is h = subst (λ x. Read line x at (Some u)) says (subst (λ x. Read line None x (Some u)) (sym is) (u, refl, h))

started : (line : ℕ) (o : Option Command) (at : Option Page) (command : Command) (n capacity : ℕ) (kind : CostKind) (u : Page) → Some command ≡ o → command ≡ District n capacity kind → FreshPage n capacity kind u → Read line o at (Some u)
started line o at command n capacity kind u says is h = subst (λ x. Read line x at (Some u)) (ap Some (sym is) ∙ says) (u, refl, h)

called : (line : ℕ) (o : Option Command) (at : Option Page) (command : Command) (call : Line) (p u : Page) → Some command ≡ o → command ≡ Call call → at ≡ Some p → PageNoted p u line (Some call) → Read line o at (Some u)
called line o at command call p u says calls is h = subst (λ x. Read line x at (Some u)) (ap Some (sym calls) ∙ says) (subst (λ x. Read line (Some (Call call)) x (Some u)) (sym is) (u, refl, h))

pub returns-in_ok-skip-in-Some-page : goal.returns-in_ok-skip-in-Some-page
returns-in_ok-skip-in-Some-page c = skipped c.args.number _ _ _ _ c.in_default.ensures c.in-Some-page.is c.in_ok-skip-in-Some-page.ensures

pub returns-in_ok-finish-in-District : goal.returns-in_ok-finish-in-District
returns-in_ok-finish-in-District c = started c.args.number _ _ _ _ _ _ _ c.in-Some.ensures c.in-District.is c.new.ensures

pub returns-in_ok-note-in-Some-page-2 : goal.returns-in_ok-note-in-Some-page-2
returns-in_ok-note-in-Some-page-2 c = called c.args.number _ _ _ _ _ _ c.in-Some.ensures c.in-Call.is c.in-Some-page-2.is c.in_ok-note-in-Some-page-2.ensures
