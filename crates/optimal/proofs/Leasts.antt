-- The least key that waits, as a search knows it. Assumes nothing.
use Rattle.std.proofs.Common.{◌≡◌, ℕ, zero, suc, ◌/◌, ◌%◌, ◌<◌, true, false, cond, eqb, Some, None, Option, sym, refl, ap, ◌∙◌, subst, ⊎_elim, arith}
use Rattle.std.proofs.lemmas.Bool.{cases_lt, cases_Bool, lt-ltb, eq-eqb}
use Rattle.network.specs.Costs.{Laws, AtMost}
use Rattle.queue.proofs.Scan.{none≢some}
use Rattle.theory.proofs.Order.{le_trans}
use Rattle.theory.proofs.Paths.{same_some}
use Rattle.labelling.specs.Tables.{Rule, sum_of, Tables, codes, code_of, label_cost, reached_at, turn_at, key_at, with_key, least_to, least_waiting}
use Rattle.labelling.proofs.Offering.{code_within, sum_at_code}
use Rattle.optimal.proofs.Reaching.{below_le}

module _ {K : Type 0} (r : Rule K) (t : Tables K) where
  -- a label that waits has its key
  pub key_is : (v I : ℕ) → v < r.size.junctions → I < r.size.sets → turn_at t (code_of r.size v I) ≡ 0 → reached_at t (code_of r.size v I) ≡ true
      → key_at r t (code_of r.size v I) ≡ sum_of r (label_cost r t (code_of r.size v I)) (r.bound v I)
  key_is v I vn In fresh reached =
      let c = code_of r.size v I in
      let o = sum_of r (label_cost r t c) (r.bound (c / r.size.sets) (c % r.size.sets)) in
      ap (λ x. cond (cond x (cond (eqb (turn_at t c) 0) (reached_at t c) false) false) o None) (lt-ltb c (codes r.size) (code_within r.size v I vn In))
      ∙ ap (λ x. cond (cond x (reached_at t c) false) o None) (eq-eqb (turn_at t c) 0 fresh)
      ∙ ap (λ x. cond x o None) reached
      ∙ sum_at_code r v I (label_cost r t c) In

  module _ (laws : Laws r.kind) where
    -- of the first n codes no key is below the one chosen
    abbrev Lowest : ℕ → Option (K × ℕ) → Type 0
    Lowest n None = (d : ℕ) → d < n → key_at r t d ≡ None
    Lowest n (Some p) = (d : ℕ) (k : K) → d < n → key_at r t d ≡ Some k → AtMost r.kind p.0 k

    same_key : (n d : ℕ) (k m : K) → d ≡ n → key_at r t n ≡ Some k → key_at r t d ≡ Some m → AtMost r.kind k m
    same_key n d k m q e f = let s : k ≡ m = same_some (sym e ∙ ap (key_at r t) (sym q) ∙ f) in ap (λ x. r.kind.below x k) (sym s) ∙ laws.irrefl k

    lowest_more : (n : ℕ) (best : Option (K × ℕ)) (o : Option K) → key_at r t n ≡ o → Lowest n best → Lowest (suc n) (with_key r.kind.below best o n)
    lowest_more n None None e h = λ d lt. ⊎_elim (λ l. h d l) (λ ge. let q : d ≡ n = omega arith in ap (key_at r t) q ∙ e) (cases_lt d n)
    lowest_more n (Some p) None e h = λ d k lt f. ⊎_elim (λ l. h d k l f) (λ ge. let q : d ≡ n = omega arith in none≢some (sym (ap (key_at r t) q ∙ e) ∙ f)) (cases_lt d n)
    lowest_more n None (Some k) e h = λ d m lt f. ⊎_elim (λ l. none≢some (sym (h d l) ∙ f)) (λ ge. same_key n d k m (omega arith) e f) (cases_lt d n)
    lowest_more n (Some p) (Some k) e h =
        ⊎_elim
        (λ y. subst (Lowest (suc n)) (sym (ap (λ b. cond b (Some (k, n)) (Some p)) y))
        (λ d m lt f. ⊎_elim (λ l. le_trans laws _ _ _ (below_le laws k p.0 y) (h d m l f)) (λ ge. same_key n d k m (omega arith) e f) (cases_lt d n)))
        (λ y. subst (Lowest (suc n)) (sym (ap (λ b. cond b (Some (k, n)) (Some p)) y))
        (λ d m lt f. ⊎_elim (λ l. h d m l f) (λ ge. le_trans laws _ _ _ y (same_key n d k m (omega arith) e f)) (cases_lt d n)))
        (cases_Bool (r.kind.below k p.0))

    lowest : (n : ℕ) → Lowest n (least_to r t n)
    lowest zero = λ d lt. absurd (omega arith)
    lowest (suc n) = lowest_more n (least_to r t n) (key_at r t n) refl (lowest n)

    pub least_lowest : (p : K × ℕ) → least_waiting r t ≡ Some p → (d : ℕ) (k : K) → d < codes r.size → key_at r t d ≡ Some k → AtMost r.kind p.0 k
    least_lowest p e = subst (Lowest (codes r.size)) e (lowest (codes r.size))
