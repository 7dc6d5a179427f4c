-- What the questions of a call let through, and one more run in a district's rows. Assumes nothing.
use Rattle.std.proofs.Common.{◌≡◌, ℕ, ◌<◌, cond, List, [], ◌∷◌, ◌++◌, length, get_or, nat_le, Ok, Err, sym, subst, inl, inr, arith}
use Rattle.std.proofs.lemmas.List.{length_push, get_or_push, get_or_append_left}
use Rattle.std.proofs.lemmas.Bool.{cases_lt}
use Rattle.std.proofs.lemmas.Bool.Decides.{nat_tests}
use Rattle.network.specs.Costs.{Kind, Price}
use Rattle.network.specs.declared.refusal.Refusal.{Refusal}
use Rattle.district.specs.Model.{price_answer}

-- what holds of each, and of a last one
pub each_push : {X : Type 0} (P : X → Type 0) (xs : List X) (x : X) → P x → ((k : ℕ) (d : X) → k < length xs → P (get_or xs k d)) → (k : ℕ) (d : X) → k < length (xs ++ x ∷ []) → P (get_or (xs ++ x ∷ []) k d)
each_push P xs x p f k d lt =
    elim (cases_lt k (length xs)) [
      | inl h ↦ subst P (sym (get_or_append_left xs (x ∷ []) d k h)) (f k d h)
      | inr h ↦ let e : k ≡ length xs = omega (arith, length_push xs x) in subst P (sym (get_or_push xs x d k (sym e))) p
    ]

-- a number let through is below what it was asked against
pub let_through : (n j k : ℕ) (why : Refusal) → Ok k ≡ cond (nat_le n j) (Err why) (Ok j) → (k ≡ j) × (j < n)
let_through n j k why e = (grind (arith, nat_tests), grind (arith, nat_tests))

-- a cost let through is one that a run may have
pub price_is : {K : Type 0} (kind : Kind K) (cost : K) → Ok tt ≡ price_answer kind cost → Price kind cost
price_is kind cost e = record { above_zero = grind (arith, nat_tests); bulk_within = grind (arith, nat_tests) }
