-- Codes are in order by key and then by code. Assumes nothing.
use Rattle.std.proofs.Common.{◌≡◌, ℕ, ◌<◌, ◌≤◌, Bool, true, false, ltb, ◌⊎◌, List, get_or, sym, refl, ap, ◌∙◌, inl, inr, arith}
use Rattle.std.proofs.lemmas.Bool.{cases_Bool, both_ways, ltb-true, ltb-false, lt-ltb, le-ltb}
use Rattle.network.specs.Costs.{Kind, Laws}
use Rattle.network.proofs.Order.{le_eq, weaken}
use Rattle.heap.specs.Heaps.{before}

module _ {K : Type 0} {kind : Kind K} (laws : Laws kind) where
  abbrev below : K → K → Bool
  below = kind.below

  module _ (keys : List K) (d : K) where
    pub yes : (a b : ℕ) → before below keys d a b ≡ true → (below (get_or keys a d) (get_or keys b d) ≡ true) ⊎ ((get_or keys a d ≡ get_or keys b d) × (a < b))
    yes a b t =
        let j = get_or keys a d in
        let k = get_or keys b d in
        elim (cases_Bool (below j k)) [
          | inl p ↦ inl p
          | inr n ↦ elim (cases_Bool (below k j)) [
            | inl q ↦ absurd (both_ways (before below keys d a b) (cc) t)
            | inr m ↦ let l : ltb a b ≡ true = cc in inr (laws.equal j k n m, ltb-true a b l)
          ]
        ]

    pub no : (a b : ℕ) → before below keys d a b ≡ false → (below (get_or keys b d) (get_or keys a d) ≡ true) ⊎ ((get_or keys a d ≡ get_or keys b d) × (b ≤ a))
    no a b t =
        let j = get_or keys a d in
        let k = get_or keys b d in
        elim (cases_Bool (below j k)) [
          | inl p ↦ absurd (both_ways (before below keys d a b) t (cc))
          | inr n ↦ elim (cases_Bool (below k j)) [
            | inl q ↦ inl q
            | inr m ↦ let l : ltb a b ≡ false = cc in inr (laws.equal j k n m, ltb-false a b l)
          ]
        ]

    from_yes : (a b : ℕ) → (below (get_or keys a d) (get_or keys b d) ≡ true) ⊎ ((get_or keys a d ≡ get_or keys b d) × (a < b)) → before below keys d a b ≡ true
    from_yes a b (inl p) = cc
    from_yes a b (inr q) =
        let n = le_eq laws (sym q.0) in
        let m = le_eq laws q.0 in
        let l = lt-ltb a b q.1 in cc

    pub from_no : (a b : ℕ) → (below (get_or keys b d) (get_or keys a d) ≡ true) ⊎ ((get_or keys a d ≡ get_or keys b d) × (b ≤ a)) → before below keys d a b ≡ false
    from_no a b (inl p) = let n = weaken laws (get_or keys b d) (get_or keys a d) p in cc
    from_no a b (inr q) =
        let n = le_eq laws (sym q.0) in
        let m = le_eq laws q.0 in
        let l = le-ltb a b q.1 in cc

    pub before_asym : (a b : ℕ) → before below keys d a b ≡ true → before below keys d b a ≡ false
    before_asym a b t =
        elim (yes a b t)
        [ inl p ↦ from_no b a (inl p) | inr q ↦ from_no b a (inr (sym q.0, omega arith)) ]

    pub before_irrefl : (a : ℕ) → before below keys d a a ≡ false
    before_irrefl a = from_no a a (inr (refl, omega arith))

    pub before_trans : (a b c : ℕ) → before below keys d a b ≡ true → before below keys d b c ≡ true → before below keys d a c ≡ true
    before_trans a b c s t =
        let i = get_or keys a d in
        let j = get_or keys b d in
        let k = get_or keys c d in
        elim (yes a b s) [
          | inl p ↦ elim (yes b c t) [
            | inl q ↦ from_yes a c (inl (laws.trans i j k p q))
            | inr q ↦ from_yes a c (inl (ap (below i) (sym q.0) ∙ p))
          ]
          | inr p ↦ elim (yes b c t) [
            | inl q ↦ from_yes a c (inl (ap (λ x. below x k) p.0 ∙ q))
            | inr q ↦ from_yes a c (inr (p.0 ∙ q.0, omega (arith, p.1, q.1)))
          ]
        ]

    pub before_cotrans : (a b c : ℕ) → before below keys d a b ≡ false → before below keys d b c ≡ false → before below keys d a c ≡ false
    before_cotrans a b c s t =
        let i = get_or keys a d in
        let j = get_or keys b d in
        let k = get_or keys c d in
        elim (no a b s) [
          | inl p ↦ elim (no b c t) [
            | inl q ↦ from_no a c (inl (laws.trans k j i q p))
            | inr q ↦ from_no a c (inl (ap (λ x. below x i) (sym q.0) ∙ p))
          ]
          | inr p ↦ elim (no b c t) [
            | inl q ↦ from_no a c (inl (ap (below k) p.0 ∙ q))
            | inr q ↦ from_no a c (inr (p.0 ∙ q.0, omega (arith, p.1, q.1)))
          ]
        ]
