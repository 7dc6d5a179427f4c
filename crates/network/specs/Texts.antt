-- What is printed of refusals and costs. Assumes nothing.
use Rattle.std.specs.Prelude.{ℕ, List, ◌++◌, decimal, codes}
use Rattle.network.specs.declared.refusal.Refusal.{Refusal}
use Rattle.network.specs.declared.money.Money.{Money}
use Rattle.network.specs.declared.crossings.CrossingsFirst.{CrossingsFirst}
use Rattle.network.specs.Numbers.{number_of}

-- "refused" and the number of the refusal
abbrev pub refusal_text : Refusal → List ℕ
refusal_text r = codes "refused " ++ decimal (number_of r)

-- the amount
abbrev pub money_text : Money → List ℕ
money_text a = decimal a.amount

-- the crossings and the money, joined by a plus sign
abbrev pub crossings_text : CrossingsFirst → List ℕ
crossings_text a = decimal a.crossings ++ codes "+" ++ decimal a.money
