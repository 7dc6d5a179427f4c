-- What is reached stays reached, at no higher cost, and an offer reaches. Assumes nothing.
use Rattle.std.proofs.Common.{◌≡◌, ℕ, ◌<◌, Bool, true, false, cond, eqb, length, Some, None, Option, sym, refl, ap, ◌∙◌, subst, ⊎_elim, is_some, unwrap_or}
use lib.Bits.{bit_and, bit_or}
use Rattle.std.proofs.lemmas.List.{get_or_past}
use Rattle.std.proofs.lemmas.Bool.{cases_Bool, cases_eq, cases_lt, cond_both, both_ways, eq-eqb, eqb-true, eqb-false, false≢true}
use Rattle.network.specs.declared.run.Run.{Run}
use Rattle.network.specs.Costs.{Kind, Laws, AtMost}
use Rattle.queue.proofs.Scan.{none≢some}
use Rattle.theory.proofs.Order.{le_trans}
use Rattle.labelling.specs.declared.kinds.Back.{Back}
use Rattle.labelling.specs.declared.kinds.Back.TheVariants.{Run as ByRun, Fork}
use Rattle.labelling.specs.declared.kinds.Place.{Place}
use Rattle.labelling.specs.Tables.{Rule, sum_of, Tables, code_of, label_cost, reached_at, turn_at}
use Rattle.labelling.specs.Offers.{written, offered}
use Rattle.labelling.specs.Runs.{other_end, led, along_to, along}
use Rattle.labelling.specs.Forks.{joined, fork}
use Rattle.labelling.proofs.Writing.{label_here, label_other, offered_either}

-- the label at d is reached, at a cost of at most m
abbrev pub Reach : {K : Type 0} → Rule K → Tables K → ℕ → K → Type 0
Reach r t d m = ((reached_at t d) ≡ true) × AtMost r.kind (label_cost r t d) m

-- ---- an improvement is cheaper than what was reached
kept_below : (x y z : Bool) → cond x (cond y z true) false ≡ true → y ≡ true → z ≡ true
kept_below true true z h e = h
kept_below true false z h e = absurd (false≢true e)
kept_below false y z h e = absurd (false≢true h)

left_above : (x y z : Bool) → cond x (cond y z true) false ≡ false → x ≡ true → (y ≡ true) × (z ≡ false)
left_above true true z h e = (refl, h)
left_above true false z h e = absurd (false≢true (sym h))
left_above false y z h e = absurd (false≢true e)

pub below_le : {K : Type 0} {kind : Kind K} (laws : Laws kind) (a b : K) → kind.below a b ≡ true → AtMost kind a b
below_le {K} {kind} laws a b h = ⊎_elim (λ e. absurd (both_ways (kind.below a a) (laws.irrefl a) (laws.trans a b a h e))) (λ e. e) (cases_Bool (kind.below b a))

module _ {K : Type 0} (r : Rule K) (laws : Laws r.kind) where
  -- only a place of the row is reached
  reached_within : (t : Tables K) (d : ℕ) → reached_at t d ≡ true → d < length t.labels
  reached_within t d h =
      ⊎_elim (λ lt. lt) (λ ge. absurd (false≢true (ap is_some (sym (get_or_past t.labels d None ge)) ∙ h))) (cases_lt d (length t.labels))

  pub reach_offered : (t : Tables K) (p : Place K) (b : Back) (d : ℕ) (m : K) → Reach r t d m → Reach r (offered r t p b) d m
  reach_offered t p b d m h =
      offered_either r t p b (λ s. Reach r s d m) (λ e. h) (λ e. h)
      (λ kept.
      ⊎_elim
      (λ e.
      let c = code_of r.size p.v p.set in
      let at : (reached_at t c) ≡ true = ap (λ n. reached_at t n) (sym e) ∙ h.0 in
      let new = label_here r t c p.cost b (reached_within t c at) in
      let low = kept_below (eqb (turn_at t c) 0) (reached_at t c) (r.kind.below p.cost (label_cost r t c)) kept at in
      let le : AtMost r.kind (label_cost r t c) m = ap (λ n. r.kind.below m (label_cost r t n)) (sym e) ∙ h.1 in
      subst (λ n. Reach r (written t c p.cost b) n m) (sym e)
      (ap is_some new, ap (λ (x : Option K). r.kind.below m (unwrap_or x r.kind.zero)) new ∙ le_trans laws _ _ _ (below_le laws _ _ low) le))
      (λ ne.
      let same = label_other r t (code_of r.size p.v p.set) p.cost b d ne in
      (ap is_some same ∙ h.0, ap (λ (x : Option K). r.kind.below m (unwrap_or x r.kind.zero)) same ∙ h.1))
      (cases_eq d (code_of r.size p.v p.set)))

  -- an offer whose key has a sum reaches its label, if no settled label costs more
  pub reach_made : (t : Tables K) (p : Place K) (b : Back) (key : K) → sum_of r p.cost (r.bound p.v p.set) ≡ Some key
      → code_of r.size p.v p.set < length t.labels
      → ((turn_at t (code_of r.size p.v p.set) ≡ 0 → ⊥) → Reach r t (code_of r.size p.v p.set) p.cost)
      → Reach r (offered r t p b) (code_of r.size p.v p.set) p.cost
  reach_made t p b key e lt done =
      let c = code_of r.size p.v p.set in
      offered_either r t p b (λ s. Reach r s (code_of r.size p.v p.set) p.cost)
      (λ none. none≢some (sym none ∙ e))
      (λ left.
      ⊎_elim
      (λ z. let q = left_above (eqb (turn_at t c) 0) (reached_at t c) (r.kind.below p.cost (label_cost r t c)) left (eq-eqb (turn_at t c) 0 z) in (q.0, q.1))
      (λ s. done s)
      (cases_eq (turn_at t c) 0))
      (λ kept.
      let new = label_here r t c p.cost b lt in
      (ap is_some new, ap (λ (x : Option K). r.kind.below p.cost (unwrap_or x r.kind.zero)) new ∙ laws.irrefl p.cost))

-- ---- one run, and one set
module _ {K : Type 0} (r : Rule K) (from : Place K) (t : Tables K) (P : Tables K → Type 0) (same : P t) where
  pub along_either : (i : ℕ) (mark : Bool) (x : Run K)
      → ((w : ℕ) (k : K) → mark ≡ true → other_end x from.v ≡ Some w → sum_of r from.cost x.cost ≡ Some k → P (offered r t (record { v = w; set = from.set; cost = k }) (ByRun i)))
      → P (along r from i mark x t)
  along_either i mark x h = cond_both mark (along_to r t from i x (other_end x from.v)) t P (λ e. to e (other_end x from.v) refl) (λ e. same)
    where
      lead : mark ≡ true → (w : ℕ) → other_end x from.v ≡ Some w → (o : Option K) → sum_of r from.cost x.cost ≡ o → P (led r t from i w o)
      lead e w f None g = same
      lead e w f (Some k) g = h w k e f g

      to : mark ≡ true → (o : Option ℕ) → other_end x from.v ≡ o → P (along_to r t from i x o)
      to e None f = same
      to e (Some w) f = lead e w f (sum_of r from.cost x.cost) refl

  pub fork_either : (j : ℕ)
      → ((k : K) → (j ≡ 0 → ⊥) → bit_and from.set j ≡ 0 → (turn_at t (code_of r.size from.v j) ≡ 0 → ⊥) → sum_of r from.cost (label_cost r t (code_of r.size from.v j)) ≡ Some k → P (offered r t (record { v = from.v; set = bit_or from.set j; cost = k }) (Fork j)))
      → P (fork r from j t)
  fork_either j h =
      cond_both (eqb j 0) _ _ P (λ z. same)
      (λ ne. cond_both (eqb (bit_and from.set j) 0) _ _ P
      (λ apart. cond_both (eqb (turn_at t (code_of r.size from.v j)) 0) _ _ P (λ z. same)
      (λ s. join (eqb-false j 0 ne) (eqb-true _ 0 apart) (eqb-false _ 0 s) (sum_of r from.cost (label_cost r t (code_of r.size from.v j))) refl))
      (λ z. same))
    where
      join : (j ≡ 0 → ⊥) → bit_and from.set j ≡ 0 → (turn_at t (code_of r.size from.v j) ≡ 0 → ⊥) → (o : Option K) → sum_of r from.cost (label_cost r t (code_of r.size from.v j)) ≡ o → P (joined r t from j o)
      join ne apart s None e = same
      join ne apart s (Some k) e = h k ne apart s e
