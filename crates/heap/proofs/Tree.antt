-- A code that rises or sinks one place leaves the rest in order. Assumes nothing.
use Rattle.std.proofs.Common.{◌≡◌, ℕ, zero, suc, ◌<◌, ◌≤◌, Bool, true, false, ◌≢◌, sym, refl, ap, ◌∙◌, inl, inr, arith}
use Rattle.std.proofs.lemmas.List.Edits.{Swapped}
use Rattle.std.proofs.lemmas.Bool.{cases_eq, cases_Bool, both_ways}
use Rattle.heap.specs.Heaps.{parent, Ordered}
use Rattle.heap.specs.Sifts.{OrderedButAt, OrderedButUnder, Over}

pub risen : (u : ℕ → ℕ → Bool) (len at : ℕ) (f : ℕ → ℕ) → OrderedButAt u len f at → (0 < at → u (f at) (f (parent at)) ≡ false) → Ordered u len f
risen u len at f but here k p l =
    elim (cases_eq k at) [ inl e ↦ rw e (here (omega arith)) | inr n ↦ but k p l n ]

pub sunk : (u : ℕ → ℕ → Bool) (len at : ℕ) (f : ℕ → ℕ) → OrderedButUnder u len f at → ((k : ℕ) → 0 < k → k < len → parent k ≡ at → u (f k) (f at) ≡ false) → Ordered u len f
sunk u len at f but here k p l =
    elim (cases_eq (parent k) at) [ inl e ↦ ap (λ i. u (f k) (f i)) e ∙ here k p l e | inr n ↦ but k p l n ]

module _
    (u : ℕ → ℕ → Bool)
    (asym : (x y : ℕ) → u x y ≡ true → u y x ≡ false)
    (trans : (x y z : ℕ) → u x y ≡ true → u y z ≡ true → u x z ≡ true)
    (cotrans : (x y z : ℕ) → u x y ≡ false → u y z ≡ false → u x z ≡ false) where
  both : {a b a' b' : ℕ} → a' ≡ a → b' ≡ b → u a b ≡ false → u a' b' ≡ false
  both e f h = cc

  -- no code comes before the first
  first_from : (len n : ℕ) (f : ℕ → ℕ) → u (f 0) (f 0) ≡ false → Ordered u len f → (k : ℕ) → k ≤ n → k < len → u (f k) (f 0) ≡ false
  first_from len zero f r o k le lt = let e : k ≡ 0 = omega arith in both (ap f e) refl r
  first_from len (suc n) f r o k le lt =
      elim (cases_eq k 0) [
        | inl e ↦ both (ap f e) refl r
        | inr m ↦ cotrans (f k) (f (parent k)) (f 0) (o k (omega arith) lt) (first_from len n f r o (parent k) (omega arith) (omega arith))
      ]

  pub first : (len : ℕ) (f : ℕ → ℕ) → u (f 0) (f 0) ≡ false → Ordered u len f → (k : ℕ) → k < len → u (f k) (f 0) ≡ false
  first len f r o k lt = first_from len k f r o k (omega arith) lt

  module _
      (f g : ℕ → ℕ) (len at : ℕ) (pos : 0 < at) (inside : at < len)
      (S : Swapped f g at (parent at)) (less : u (f at) (f (parent at)) ≡ true)
      (but : OrderedButAt u len f at) (over : Over u len f at) where
    pub but_up : OrderedButAt u len g (parent at)
    but_up k p l n =
        elim (cases_eq k at) [
          | inl e ↦ both (ap g e ∙ S.0) (ap (λ i. g (parent i)) e ∙ S.1) (asym (f at) (f (parent at)) less)
          | inr m ↦ elim (cases_eq (parent k) at) [
            | inl q ↦ both (S.2 k m n) (ap g q ∙ S.0) (over k p l q pos)
            | inr r ↦ elim (cases_eq (parent k) (parent at)) [
              | inl q ↦
                  let old : u (f k) (f (parent at)) ≡ false = both refl (ap f (sym q)) (but k p l m) in
                  both (S.2 k m n) (ap g q ∙ S.1)
                  (elim (cases_Bool (u (f k) (f at))) [
                    | inl t ↦ absurd (both_ways (u (f k) (f (parent at))) old (trans (f k) (f at) (f (parent at)) t less))
                    | inr h ↦ h
                  ])
              | inr s ↦ both (S.2 k m n) (S.2 (parent k) r s) (but k p l m)
            ]
          ]
        ]

    pub over_up : Over u len g (parent at)
    over_up k p l q up =
        let ne : parent at ≢ at = omega arith in
        let g1 : parent (parent at) ≢ at = omega arith in
        let g2 : parent (parent at) ≢ parent at = omega arith in
        let top = S.2 (parent (parent at)) g1 g2 in
        let above = but (parent at) up (omega arith) ne in
        elim (cases_eq k at) [
          | inl e ↦ both (ap g e ∙ S.0) top above
          | inr m ↦
              let n : k ≢ parent at = omega arith in
              let old : u (f k) (f (parent at)) ≡ false = both refl (ap f (sym q)) (but k p l m) in
              both (S.2 k m n) top (cotrans (f k) (f (parent at)) (f (parent (parent at))) old above)
        ]

  module _
      (f g : ℕ → ℕ) (len at down : ℕ) (after : at < down) (inside : down < len) (under : parent down ≡ at)
      (S : Swapped f g at down) (less : u (f down) (f at) ≡ true)
      (least : (k : ℕ) → 0 < k → k < len → parent k ≡ at → u (f k) (f down) ≡ false)
      (but : OrderedButUnder u len f at) (over : Over u len f at) where
    pub but_down : OrderedButUnder u len g down
    but_down k p l n =
        elim (cases_eq k down) [
          | inl e ↦ both (ap g e ∙ S.1) (ap (λ i. g (parent i)) e ∙ ap g under ∙ S.0) (asym (f down) (f at) less)
          | inr m ↦ elim (cases_eq k at) [
            | inl e ↦
                let pos : 0 < at = omega arith in
                let n1 : parent at ≢ at = omega arith in
                let n2 : parent at ≢ down = omega arith in
                both (ap g e ∙ S.0) (ap (λ i. g (parent i)) e ∙ S.2 (parent at) n1 n2) (over down (omega arith) inside under pos)
            | inr r ↦ elim (cases_eq (parent k) at) [
              | inl q ↦ both (S.2 k r m) (ap g q ∙ S.0) (least k p l q)
              | inr s ↦ both (S.2 k r m) (S.2 (parent k) s n) (but k p l s)
            ]
          ]
        ]

    pub over_down : Over u len g down
    over_down k p l q pos =
        let r : k ≢ at = omega arith in
        let m : k ≢ down = omega arith in
        let s : parent k ≢ at = omega arith in
        both (S.2 k r m) (ap g under ∙ S.0) (ap (λ i. u (f k) (f i)) (sym q) ∙ but k p l s)
