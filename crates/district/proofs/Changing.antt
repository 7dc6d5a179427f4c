-- Runs repriced, closed and opened in a district's rows. Assumes nothing.
use Rattle.std.proofs.Common.{◌≡◌, ℕ, zero, suc, ◌<◌, ◌≤◌, Bool, true, false, cond, List, [], ◌∷◌, length, get_or, take, set, Ok, refl, sym, ap, ◌∙◌, subst, inl, inr, arith}
use Rattle.std.proofs.Math.Seq.{take-set-lt}
use Rattle.std.proofs.lemmas.List.{get_or-set_same, get_or-set_other, get_or-take, get_or_default, length-set, length-take-le}
use Rattle.std.proofs.lemmas.Bool.{cases_eq}
use Rattle.std.proofs.lemmas.Bool.Decides.{nat_tests}
use Rattle.std.specs.Bool.{beq}
use Rattle.network.specs.declared.run.Run.{Run}
use Rattle.network.specs.Costs.{Kind, Price}
use Rattle.network.specs.Layouts.{Priced}
use Rattle.district.specs.Bounds.{EndsBelow}
use Rattle.district.proofs.Laying.{price_is}
use Rattle.district.specs.Model.{Model, if_taken, price_answer, reprice_answer, repriced, after_reprice, with_runs, is_open, with_mark, after_open, after_close}

-- the i-th run at another cost
abbrev pub at_cost : {K : Type 0} → Run K → K → Run K
at_cost r cost = record { a = r.a; b = r.b; cost = cost }

-- a run written over at another cost
pub repriced_is : {K : Type 0} (rs : List (Run K)) (i : ℕ) (cost : K) (d : Run K) → i < length rs → repriced rs i cost ≡ set rs i (at_cost (get_or rs i d) cost)
repriced_is [] i cost d l = refl
repriced_is (r ∷ rs) zero cost d l = refl
repriced_is (r ∷ rs) (suc i) cost d l = ap (λ zs. r ∷ zs) (repriced_is rs i cost d (omega arith))

-- what holds of each, and of the one written at i
pub each_set : {X : Type 0} (P : X → Type 0) (xs : List X) (i : ℕ) (x : X) → P x → ((k : ℕ) (d : X) → k < length xs → P (get_or xs k d)) → (k : ℕ) (d : X) → k < length (set xs i x) → P (get_or (set xs i x) k d)
each_set P xs i x p f k d l =
    let n = length-set xs i x in
    elim (cases_eq k i) [
      | inl e ↦ let m : i < length xs = omega arith in subst P (sym (ap (λ j. get_or (set xs i x) j d) e ∙ get_or-set_same xs i x d m)) p
      | inr ne ↦ subst P (sym (get_or-set_other xs i k x d ne)) (f k d (omega arith))
    ]

module _ {K : Type 0} (rs rs' : List (Run K)) (n i : ℕ) (cost : K) (lt : i < n) (fit : n ≤ length rs) (is : (d : Run K) → rs' ≡ set rs i (at_cost (get_or rs i d) cost)) where
  -- a run among the first n, written over at another cost
  pub first_set : (d : Run K) → take n rs' ≡ set (take n rs) i (at_cost (get_or (take n rs) i d) cost)
  first_set d = ap (take n) (is d) ∙ (take-set-lt n rs i _ lt ∙ ap (λ r. set (take n rs) i (at_cost r cost)) (sym (get_or-take n rs i d lt)))

  pub first_repriced : take n rs' ≡ repriced (take n rs) i cost
  first_repriced =
      let long = length-take-le n rs fit in
      let d : Run K = record { a = 0; b = 0; cost = cost } in first_set d ∙ sym (repriced_is (take n rs) i cost d (omega arith))

  -- a run at another cost ends where it did
  pub ends_repriced : (J : ℕ) → EndsBelow J (take n rs) → EndsBelow J (take n rs')
  ends_repriced J old =
      let long = length-take-le n rs fit in
      let d : Run K = record { a = 0; b = 0; cost = cost } in
      subst (EndsBelow J) (sym (first_set d)) (each_set (λ r. (r.a < J) × (r.b < J)) (take n rs) i _ (old i d (omega arith)) old)

  pub priced_set : (kind : Kind K) → Ok tt ≡ price_answer kind cost → Priced kind (take n rs) → Priced kind (take n rs')
  priced_set kind e old =
      let d : Run K = record { a = 0; b = 0; cost = cost } in
      subst (Priced kind) (sym (first_set d)) (each_set (λ r. Price kind r.cost) (take n rs) i _ (price_is kind cost e) old)

-- what a repricing answers and writes, once its cost is let in
pub repriced_taken : {K : Type 0} (kind : Kind K) (m : Model K) (i : ℕ) (cost : K) → i < length m.runs → Ok tt ≡ price_answer kind cost → (reprice_answer kind m i cost ≡ Ok tt) × (after_reprice kind m i cost ≡ with_runs m (repriced m.runs i cost))
repriced_taken kind m i cost l e =
    let a : reprice_answer kind m i cost ≡ Ok tt = grind (arith, nat_tests) in (a, ap (λ r. if_taken r (with_runs m (repriced m.runs i cost)) m) a)

-- the i-th of the first n marks, as it was read
pub mark_read : (os : List Bool) (n i : ℕ) (o : Bool) → n ≤ length os → i < n → o ≡ get_or os i o → get_or (take n os) i false ≡ o
mark_read os n i o fit l e = get_or-take n os i false l ∙ (get_or_default os i false o (omega arith) ∙ sym e)

-- the same district with other open marks
abbrev pub with_marks : {K : Type 0} → Model K → List Bool → Model K
with_marks m os = record { junctions = m.junctions; capacity = m.capacity; runs = m.runs; «open» = os; outlets = m.outlets }

-- a mark turned over
pub turned : {K : Type 0} (m : Model K) (i : ℕ) (mark : Bool) → i < length m.runs → beq (is_open m i) mark ≡ false → with_mark m i mark ≡ cond mark (after_open m i) (after_close m i)
turned m i true l e = grind (arith, nat_tests)
turned m i false l e = grind (arith, nat_tests)
