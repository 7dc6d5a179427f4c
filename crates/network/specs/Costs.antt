-- What a kind of cost is. Numbers are unbounded here, so a sum always exists. Assumes nothing.
use Rattle.std.specs.Prelude.{◌≡◌, ℕ, ◌+◌, ◌^◌, ◌≤◌, Bool, true, false, cond, Some, None, Option, nat_le}

-- zero, the exact sum, the order, and the bulk of a kind of cost
pub record Kind (K : Type 0) : Type 0 where
  pub zero : K
  pub plus : K → K → K
  pub below : K → K → Bool
  pub bulk : K → ℕ

-- a costs at most b
abbrev pub AtMost : {K : Type 0} → Kind K → K → K → Type 0
AtMost k a b = k.below b a ≡ false

-- an ordered sum: total order, zero least, the same added to both keeps the order, and the bulk of a sum is at most the bulks added
pub record Laws {K : Type 0} (k : Kind K) : Type 0 where
  pub assoc : (a b c : K) → k.plus (k.plus a b) c ≡ k.plus a (k.plus b c)
  pub comm : (a b : K) → k.plus a b ≡ k.plus b a
  pub neutral : (a : K) → k.plus k.zero a ≡ a
  pub irrefl : (a : K) → k.below a a ≡ false
  pub trans : (a b c : K) → k.below a b ≡ true → k.below b c ≡ true → k.below a c ≡ true
  pub equal : (a b : K) → k.below a b ≡ false → k.below b a ≡ false → a ≡ b
  pub least : (a : K) → k.below a k.zero ≡ false
  pub shift : (a b c : K) → k.below (k.plus a c) (k.plus b c) ≡ k.below a b
  pub bulk_zero : k.bulk k.zero ≡ 0
  pub bulk_plus : (a b : K) → k.bulk (k.plus a b) ≤ k.bulk a + k.bulk b

-- the sum that the planner forms: none where the two bulks add to more than 2^50
abbrev pub summed : {K : Type 0} → Kind K → K → K → Option K
summed k a b = cond (nat_le (k.bulk a + k.bulk b) (2 ^ 50)) (Some (k.plus a b)) None

-- the greater of two costs
abbrev pub greater : {K : Type 0} → Kind K → K → K → K
greater kind a b = cond (kind.below a b) b a

-- the lesser of two costs
abbrev pub lesser : {K : Type 0} → Kind K → K → K → K
lesser kind a b = cond (kind.below b a) b a

-- a cost that a run may have: above zero, and of a bulk of at most 1,000,000
pub record Price {K : Type 0} (k : Kind K) (cost : K) : Type 0 where
  pub above_zero : k.below k.zero cost ≡ true
  pub bulk_within : k.bulk cost ≤ 1000000
