-- Every listed case holds: each is computed. Assumes nothing.
use Rattle.std.proofs.Common.{refl}
use Rattle.network.specs.Money.{money_kind}
use Rattle.network.specs.Crossings.{crossings_kind}
use Rattle.network.specs.Moneys.{money_laws}
use Rattle.network.specs.CrossingsFirsts.{crossings_laws}
use Rattle.cases.specs.Case.{AllHold}
use Rattle.cases.specs.Listed.{money_cases, crossings_cases, CasesHold}
use Rattle.cases.proofs.Holding.{silently, by_farthest}

infixr 20 ◌then◌
abbrev ◌then◌ : {X Y : Type 0} → X → Y → X × Y
x then y = (x, y)

money_hold : AllHold money_kind money_cases
money_hold =
    silently money_kind _ refl 12 _ (λ before row. refl)
    then by_farthest money_kind _ refl 12 _ money_laws refl (λ before row. refl)
    then silently money_kind _ refl 11 _ (λ before row. refl)
    then silently money_kind _ refl 4 _ (λ before row. refl)
    then by_farthest money_kind _ refl 0 _ money_laws refl (λ before row. refl)
    then silently money_kind _ refl 9 _ (λ before row. refl)
    then silently money_kind _ refl 0 _ (λ before row. refl)
    then by_farthest money_kind _ refl 0 _ money_laws refl (λ before row. refl)
    then (λ places capacity row fits. refl)
    then by_farthest money_kind _ refl 4 _ money_laws refl (λ before row. refl)
    then by_farthest money_kind _ refl 4 _ money_laws refl (λ before row. refl)
    then tt

crossings_hold : AllHold crossings_kind crossings_cases
crossings_hold =
    silently crossings_kind _ refl 12 _ (λ before row. refl)
    then by_farthest crossings_kind _ refl 12 _ crossings_laws refl (λ before row. refl)
    then tt

pub cases_hold : CasesHold
cases_hold = (money_hold, crossings_hold)
