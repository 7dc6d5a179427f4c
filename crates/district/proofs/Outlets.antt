-- The place of an outlet in a row that rises, and the row with one more or one less. Assumes nothing.
use Rattle.std.proofs.Common.{◌≡◌, ℕ, zero, suc, ◌+◌, ◌<◌, ◌≤◌, true, false, cond, eqb, ltb, ◌≢◌, ◌⊎◌, List, [], ◌∷◌, ◌++◌, length, get_or, take, drop, Ok, Err, sym, refl, ap, ◌∙◌, subst, ◌-◌, inl, inr, arith}
use Rattle.std.proofs.lemmas.List.{ext_get_or, get_or-take, length-take-le, length_push, take_all}
use Rattle.std.proofs.Math.Seq.{take-append_seam}
use Rattle.std.proofs.lemmas.List.Edits.{length-insert, get_or-insert_below, get_or-insert_at, get_or-insert_above, length-remove, get_or-remove_below, get_or-remove_above}
use Rattle.std.proofs.lemmas.List.Sorted.{searched}
use Rattle.std.proofs.lemmas.Map.Keys.{sorted_from_strictly_increasing, non_decreasing_from_sorted}
use Rattle.std.specs.List.{insert, remove, refill}
use Rattle.std.specs.Prelude.{Result, MatchResult}
use Rattle.std.specs.List.Sorted.{IsStrictlyIncreasing, IsBinarySearchResult}
use Rattle.std.specs.Ordering.{nat_cmp}
use Rattle.std.proofs.lemmas.Bool.Decides.{nat_tests}
use Rattle.std.proofs.lemmas.Bool.{cases_lt}
use Rattle.district.specs.Bounds.{AllBelow}
use Rattle.network.specs.declared.refusal.Refusal.TheVariants.{AlreadyMarked, OutletsFull, NotMarked}
use Rattle.district.specs.Model.{Model, Stands, GoesIn, ins, has, del, mark_answer, after_mark, unmark_answer, after_unmark, with_outlets, if_taken}

-- a row that rises does not fall
climbs : (os : List ℕ) → IsStrictlyIncreasing os → (i k : ℕ) → i ≤ k → k < length os → get_or os i 0 ≤ get_or os k 0
climbs os up i k le l = non_decreasing_from_sorted os (sorted_from_strictly_increasing os up) i k 0 le l

-- what a search in xs, which is os, says
pub placed : (os xs : List ℕ) (j : ℕ) (r : Result ℕ ℕ) → xs ≡ os → IsStrictlyIncreasing os → IsBinarySearchResult (λ y. nat_cmp y j) xs r → MatchResult r (Stands os j) (GoesIn os j)
placed os xs j (Ok p) same rises found =
    let s = searched os j (Ok p) (subst (λ ys. IsBinarySearchResult (λ y. nat_cmp y j) ys (Ok p)) same found) (climbs os rises) in record { fit = s.0; is = s.1 }
placed os xs j (Err p) same rises found =
    let s = searched os j (Err p) (subst (λ ys. IsBinarySearchResult (λ y. nat_cmp y j) ys (Err p)) same found) (climbs os rises) in
    record { fit = s.0; below = s.1; above = s.2 }

pub has_at : (j : ℕ) (os : List ℕ) (p : ℕ) → p < length os → get_or os p 0 ≡ j → has j os ≡ true
has_at j [] p l e = absurd (omega arith)
has_at j (x ∷ os) zero l e =
    let h : eqb x j ≡ true = grind (arith, nat_tests) in ap (λ b. cond b true (has j os)) h
has_at j (x ∷ os) (suc p) l e =
    let h = has_at j os p (omega arith) e in
    elim (eqb x j) as (λ b. cond b true (has j os) ≡ true) [ true ↦ refl | false ↦ h ]

pub has_none : (j : ℕ) (os : List ℕ) → ((k : ℕ) → k < length os → get_or os k 0 ≢ j) → has j os ≡ false
has_none j [] never = refl
has_none j (x ∷ os) never =
    let n : x ≢ j = never 0 (omega arith) in
    let h : eqb x j ≡ false = grind (arith, nat_tests) in
    ap (λ b. cond b true (has j os)) h ∙ has_none j os (λ k l. never (suc k) (omega arith))

pub ins_is : (j : ℕ) (os : List ℕ) (p : ℕ) → p ≤ length os → ((k : ℕ) → k < p → get_or os k 0 < j) → (p < length os → j ≤ get_or os p 0) → ins j os ≡ insert os p j
ins_is j [] zero le lo hi = refl
ins_is j [] (suc p) le lo hi = absurd (omega arith)
ins_is j (x ∷ os) zero le lo hi =
    let h : j ≤ x = hi (omega arith) in let e : ltb x j ≡ false = grind (arith, nat_tests) in ap (λ b. cond b (x ∷ ins j os) (j ∷ x ∷ os)) e
ins_is j (x ∷ os) (suc p) le lo hi =
    let h : x < j = lo 0 (omega arith) in
    let e : ltb x j ≡ true = grind (arith, nat_tests) in
    ap (λ b. cond b (x ∷ ins j os) (j ∷ x ∷ os)) e
    ∙ ap (λ ys. x ∷ ys) (ins_is j os p (omega arith) (λ k l. lo (suc k) (omega arith)) (λ l. hi (omega arith)))

pub del_is : (j : ℕ) (os : List ℕ) (p : ℕ) → p < length os → ((k : ℕ) → k < p → get_or os k 0 < j) → get_or os p 0 ≡ j → del j os ≡ remove os p
del_is j [] p l lo e = absurd (omega arith)
del_is j (x ∷ os) zero l lo e = let h : eqb x j ≡ true = grind (arith, nat_tests) in ap (λ b. cond b os (x ∷ del j os)) h
del_is j (x ∷ os) (suc p) l lo e =
    let q : x < j = lo 0 (omega arith) in
    let h : eqb x j ≡ false = grind (arith, nat_tests) in
    ap (λ b. cond b os (x ∷ del j os)) h ∙ ap (λ ys. x ∷ ys) (del_is j os p (omega arith) (λ k m. lo (suc k) (omega arith)) e)

-- the three places of a k, seen from p
pub sides : (k p : ℕ) → (k < p) ⊎ ((k ≡ p) ⊎ ((m : ℕ) × (p ≤ m) × (k ≡ m + 1)))
sides k p =
    elim (cases_lt k p)
    [ inl h ↦ inl h | inr h ↦ elim (cases_lt p k) [ inl q ↦ inr (inr (k - 1, omega arith, omega arith)) | inr q ↦ inr (inl (omega arith)) ] ]

module _ (os : List ℕ) (j p : ℕ) (s : GoesIn os j p) where
  pub lacks : has j os ≡ false
  lacks = has_none j os (λ k l. elim (cases_lt k p) [ inl h ↦ omega (arith, s.below k h) | inr h ↦ omega (arith, s.above k h l) ])

  pub ins_at : ins j os ≡ insert os p j
  ins_at = ins_is j os p s.fit s.below (λ l. let h = s.above p (omega arith) l in omega arith)

  pub below_more : (n : ℕ) → j < n → AllBelow n os → AllBelow n (insert os p j)
  below_more n lt old k l =
      let f = s.fit in let m = length-insert os p j f in
      elim (sides k p) [
        | inl h ↦ rw (get_or-insert_below os p j 0 k h f) (old k (omega arith))
        | inr (inl e) ↦ rw (e, get_or-insert_at os p j 0 f) lt
        | inr (inr (i, le, e)) ↦ rw (e, get_or-insert_above os p j 0 i le f) (old i (omega arith))
      ]

  pub rising_more : IsStrictlyIncreasing os → IsStrictlyIncreasing (insert os p j)
  rising_more up k l =
      let f = s.fit in let m = length-insert os p j f in
      elim (sides k p) [
        | inl h ↦ elim (sides (k + 1) p) [
          | inl q ↦ rw (get_or-insert_below os p j 0 k h f, get_or-insert_below os p j 0 (k + 1) q f) (up k (omega arith))
          | inr (inl e) ↦ let a = get_or-insert_below os p j 0 k h f in let b = get_or-insert_at os p j 0 f in let c = s.below k h in rw (a, e, b) c
          | inr (inr (i, le, e)) ↦ absurd (omega arith)
        ]
        | inr (inl e) ↦ let a = get_or-insert_at os p j 0 f in let b = get_or-insert_above os p j 0 p (omega arith) f in let h = s.above p (omega arith) (omega arith) in rw (e, a, b) h
        | inr (inr (i, le, e)) ↦ let a = get_or-insert_above os p j 0 i le f in let b = get_or-insert_above os p j 0 (i + 1) (omega arith) f in rw (e, a, b) (up i (omega arith))
      ]

module _ (os : List ℕ) (j p : ℕ) (s : Stands os j p) where
  pub holds : has j os ≡ true
  holds = has_at j os p s.fit s.is

  pub del_at : IsStrictlyIncreasing os → del j os ≡ remove os p
  del_at rises =
      let f = s.fit in let e = s.is in
      del_is j os p f (λ k m. let u = rises k (omega arith) in let c = climbs os rises (k + 1) p (omega arith) f in omega arith) e

  pub below_less : (n : ℕ) → AllBelow n os → AllBelow n (remove os p)
  below_less n old k l =
      let f = s.fit in let m = length-remove os p f in
      elim (cases_lt k p) [
        | inl h ↦ rw (get_or-remove_below os p 0 k h f) (old k (omega arith))
        | inr h ↦ rw (get_or-remove_above os p 0 k h f) (old (k + 1) (omega arith))
      ]

  pub rising_less : IsStrictlyIncreasing os → IsStrictlyIncreasing (remove os p)
  rising_less up k l =
      let f = s.fit in let m = length-remove os p f in
      elim (cases_lt (k + 1) p) [
        | inl h ↦ rw (get_or-remove_below os p 0 k (omega arith) f, get_or-remove_below os p 0 (k + 1) h f) (up k (omega arith))
        | inr h ↦ elim (cases_lt k p) [
          | inl q ↦ let a = get_or-remove_below os p 0 k q f in let b = get_or-remove_above os p 0 (k + 1) h f in let u = up k (omega arith) in let v = up (k + 1) (omega arith) in omega (arith, a, b, u, v)
          | inr q ↦ rw (get_or-remove_above os p 0 k q f, get_or-remove_above os p 0 (k + 1) h f) (up (k + 1) (omega arith))
        ]
      ]

module _ {K : Type 0} (m : Model K) (j : ℕ) (l : j < m.junctions) where
  pub is_marked : has j m.outlets ≡ true → (mark_answer m j ≡ Err AlreadyMarked) × (after_mark m j ≡ m)
  is_marked h = let e : mark_answer m j ≡ Err AlreadyMarked = grind (arith, nat_tests) in (e, ap (λ r. if_taken r (with_outlets m (ins j m.outlets)) m) e)

  pub too_many : has j m.outlets ≡ false → 12 ≤ length m.outlets → (mark_answer m j ≡ Err OutletsFull) × (after_mark m j ≡ m)
  too_many h f = let e : mark_answer m j ≡ Err OutletsFull = grind (arith, nat_tests) in (e, ap (λ r. if_taken r (with_outlets m (ins j m.outlets)) m) e)

  pub goes_in : has j m.outlets ≡ false → length m.outlets < 12 → (mark_answer m j ≡ Ok tt) × (after_mark m j ≡ with_outlets m (ins j m.outlets))
  goes_in h f = let e : mark_answer m j ≡ Ok tt = grind (arith, nat_tests) in (e, ap (λ r. if_taken r (with_outlets m (ins j m.outlets)) m) e)

  pub not_marked : has j m.outlets ≡ false → (unmark_answer m j ≡ Err NotMarked) × (after_unmark m j ≡ m)
  not_marked h = let e : unmark_answer m j ≡ Err NotMarked = grind (arith, nat_tests) in (e, ap (λ r. if_taken r (with_outlets m (del j m.outlets)) m) e)

  pub goes_out : has j m.outlets ≡ true → (unmark_answer m j ≡ Ok tt) × (after_unmark m j ≡ with_outlets m (del j m.outlets))
  goes_out h = let e : unmark_answer m j ≡ Ok tt = grind (arith, nat_tests) in (e, ap (λ r. if_taken r (with_outlets m (del j m.outlets)) m) e)

-- os' is os with j put in at p
pub record Put (os os' : List ℕ) (n p j : ℕ) : Type 0 where
  pub fit : p ≤ n
  pub room : n < length os
  pub same : length os' ≡ length os
  pub below : (k : ℕ) → k < p → get_or os' k 0 ≡ get_or os k 0
  pub here : get_or os' p 0 ≡ j
  pub above : (k : ℕ) → p ≤ k → k < n → get_or os' (k + 1) 0 ≡ get_or os k 0

module _ (os os' : List ℕ) (n p j : ℕ) (put : Put os os' n p j) where
  pub put_outlets : take (n + 1) os' ≡ insert (take n os) p j
  put_outlets =
      let f = put.fit in let r = put.room in let s = put.same in
      let ln : length (take n os) ≡ n = length-take-le n os (omega arith) in
      let ln' : length (take (n + 1) os') ≡ n + 1 = length-take-le (n + 1) os' (omega arith) in
      let le : p ≤ length (take n os) = omega arith in
      let li = length-insert (take n os) p j le in
      ext_get_or 0 (take (n + 1) os') (insert (take n os) p j) (omega arith)
      (λ i l. elim (sides i p) [
        | inl h ↦ get_or-take (n + 1) os' i 0 (omega arith) ∙ (put.below i h ∙ (sym (get_or-take n os i 0 (omega arith)) ∙ sym (get_or-insert_below (take n os) p j 0 i h le)))
        | inr (inl e) ↦ get_or-take (n + 1) os' i 0 (omega arith) ∙ (ap (λ k. get_or os' k 0) e ∙ (put.here ∙ (sym (get_or-insert_at (take n os) p j 0 le) ∙ ap (λ k. get_or (insert (take n os) p j) k 0) (sym e))))
        | inr (inr (m, q, e)) ↦ get_or-take (n + 1) os' i 0 (omega arith) ∙ (ap (λ k. get_or os' k 0) e ∙ (put.above m q (omega arith) ∙ (sym (get_or-take n os m 0 (omega arith)) ∙ (sym (get_or-insert_above (take n os) p j 0 m q le) ∙ ap (λ k. get_or (insert (take n os) p j) k 0) (sym e)))))
      ])

-- the same of a whole row with one more at its end
pub put_whole : (os os' : List ℕ) (n p j : ℕ) → n ≡ length os → Put (os ++ j ∷ []) os' n p j → os' ≡ insert os p j
put_whole os os' n p j e put =
    let s = put.same in
    let long : length (os ++ j ∷ []) ≡ length os + 1 = length_push os j in
    sym (take_all (n + 1) os' (omega arith)) ∙ put_outlets (os ++ j ∷ []) os' n p j put ∙ ap (λ xs. insert xs p j) (ap (λ k. take k (os ++ j ∷ [])) e ∙ take-append_seam os (j ∷ []))

-- a row written over whole
pub refilled : (n : ℕ) (xs ws : List ℕ) → n ≡ length ws → refill n xs ws ≡ ws
refilled n xs ws e = ap (λ k. take k (ws ++ drop (length ws) xs)) e ∙ take-append_seam ws (drop (length ws) xs)
