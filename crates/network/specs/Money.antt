-- Money as a kind of cost. Assumes nothing.
use Rattle.std.specs.Prelude.{ℕ, ◌+◌, nat_lt}
use Rattle.network.specs.declared.money.Money.{Money}
use Rattle.network.specs.Costs.{Kind}

-- so much money
abbrev pub of_amount : ℕ → Money
of_amount n = record { amount = n }

-- amounts are added and compared as numbers; the amount is the bulk
abbrev pub money_kind : Kind Money
money_kind = record {
  zero = of_amount 0;
  plus = λ a b. of_amount (a.amount + b.amount);
  below = λ a b. nat_lt a.amount b.amount;
  bulk = λ a. a.amount;
}
