-- Crossings of roads, and then money, as a kind of cost. Assumes nothing.
use Rattle.std.specs.Prelude.{ℕ, ◌+◌, max, cond, ◌==◌, nat_lt}
use Rattle.network.specs.declared.crossings.CrossingsFirst.{CrossingsFirst}
use Rattle.network.specs.Costs.{Kind}

-- so many crossings and so much money
abbrev pub of_parts : ℕ → ℕ → CrossingsFirst
of_parts n m = record { crossings = n; money = m }

-- added part by part, compared by crossings and among equals by money; the larger part is the bulk
abbrev pub crossings_kind : Kind CrossingsFirst
crossings_kind = record {
  zero = of_parts 0 0;
  plus = λ a b. of_parts (a.crossings + b.crossings) (a.money + b.money);
  below = λ a b. cond (a.crossings == b.crossings) (nat_lt a.money b.money) (nat_lt a.crossings b.crossings);
  bulk = λ a. max a.crossings a.money;
}
