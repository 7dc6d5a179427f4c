-- Which code the turn is made at. Assumes nothing.
use Rattle.std.proofs.Common.{◌≡◌, ℕ, zero, suc, ◌/◌, ◌%◌, ◌<◌, Bool, true, false, cond, eqb, ltb, Some, None, Option, sym, refl, ap, ◌∙◌, subst, ⊎_elim, arith}
use Rattle.std.proofs.lemmas.Bool.{cases_lt, cases_Bool, ltb-true, eqb-true}
use Rattle.queue.proofs.Scan.{none≢some}
use Rattle.labelling.specs.Tables.{Rule, sum_of, Tables, codes, label_cost, reached_at, turn_at, key_at, with_key, least_to, least_waiting}

-- the label at c waits under the key k
pub record Waits {K : Type 0} (r : Rule K) (t : Tables K) (c : ℕ) (k : K) : Type 0 where
  pub within : c < codes r.size
  pub fresh : turn_at t c ≡ 0
  pub reached : reached_at t c ≡ true
  pub sum : sum_of r (label_cost r t c) (r.bound (c / r.size.sets) (c % r.size.sets)) ≡ Some k

pub key_waits : {K : Type 0} (r : Rule K) (t : Tables K) (c : ℕ) (k : K) → key_at r t c ≡ Some k → Waits r t c k
key_waits {K} r t c k e =
    let q = parts (ltb c (codes r.size)) (eqb (turn_at t c) 0) (reached_at t c) (sum_of r (label_cost r t c) (r.bound (c / r.size.sets) (c % r.size.sets))) e in
    record { within = ltb-true c (codes r.size) q.0; fresh = eqb-true (turn_at t c) 0 q.1; reached = q.2; sum = q.3 }
  where
    parts : (x y z : Bool) (o : Option K) → cond (cond x (cond y z false) false) o None ≡ Some k → (x ≡ true) × (y ≡ true) × (z ≡ true) × (o ≡ Some k)
    parts true true true o e = (refl, refl, refl, e)
    parts true true false o e = none≢some e
    parts true false z o e = none≢some e
    parts false y z o e = none≢some e

module _ {K : Type 0} (r : Rule K) (t : Tables K) where
  -- of the first n codes none waits, or the one chosen does
  abbrev Chosen : ℕ → Option (K × ℕ) → Type 0
  Chosen n None = (d : ℕ) → d < n → key_at r t d ≡ None
  Chosen n (Some p) = (p.1 < n) × (key_at r t p.1 ≡ Some p.0)

  chosen_more : (n : ℕ) (best : Option (K × ℕ)) (o : Option K) → key_at r t n ≡ o → Chosen n best → Chosen (suc n) (with_key r.kind.below best o n)
  chosen_more n None None e h = λ d lt. ⊎_elim (λ l. h d l) (λ ge. let q : d ≡ n = omega arith in ap (key_at r t) q ∙ e) (cases_lt d n)
  chosen_more n (Some p) None e h = (let l = h.0 in omega arith, h.1)
  chosen_more n None (Some k) e h = (omega arith, e)
  chosen_more n (Some p) (Some k) e h =
      ⊎_elim
      (λ y. subst (Chosen (suc n)) (sym (ap (λ b. cond b (Some (k, n)) (Some p)) y)) (omega arith, e))
      (λ y. subst (Chosen (suc n)) (sym (ap (λ b. cond b (Some (k, n)) (Some p)) y)) (let l = h.0 in omega arith, h.1))
      (cases_Bool (r.kind.below k p.0))

  chosen : (n : ℕ) → Chosen n (least_to r t n)
  chosen zero = λ d lt. absurd (omega arith)
  chosen (suc n) = chosen_more n (least_to r t n) (key_at r t n) refl (chosen n)

  pub least_waits : (p : K × ℕ) → least_waiting r t ≡ Some p → Waits r t p.1 p.0
  least_waits p e = key_waits r t p.1 p.0 (subst (Chosen (codes r.size)) e (chosen (codes r.size))).1

  pub none_waits : least_waiting r t ≡ None → (d : ℕ) → d < codes r.size → key_at r t d ≡ None
  none_waits e = subst (Chosen (codes r.size)) e (chosen (codes r.size))
