-- The tables of a labelling as a search knows them. Assumes nothing.
use Rattle.std.proofs.Common.{◌≡◌, ℕ, ◌<◌, Bool, true, false, cond, eqb, ltb, Some, None, Option, sym, refl, ap, ◌∙◌, inl, inr, ⊎_elim}
use Rattle.std.proofs.lemmas.Bool.{ltb-true, lt-ltb, eqb-false, ne_eqb, cases_eq}
use Rattle.network.specs.Costs.{AtMost}
use Rattle.queue.proofs.Scan.{none≢some}
use Rattle.theory.specs.Search.{Table, Settled, Waiting, Known}
use Rattle.theory.proofs.Paths.{same_some, no_some}
use Rattle.labelling.specs.Tables.{Rule, Tables, code_of, label_cost, reached_at, turn_at}

abbrev pub settled_by : {K : Type 0} → Bool → Bool → ℕ → K → Option K
settled_by x y n c = cond x (cond y (cond (eqb n 0) None (Some c)) None) None

abbrev pub reached_by : {K : Type 0} → Bool → Bool → Bool → K → Option K
reached_by x y z c = cond x (cond y (cond z (Some c) None) None) None

-- within the codes: settled where it has a turn, and reached where it is reached
abbrev pub table_of : {K : Type 0} → Rule K → Tables K → Table K
table_of r t = record {
  settled = λ v I. settled_by (ltb v r.size.junctions) (ltb I r.size.sets) (turn_at t (code_of r.size v I)) (label_cost r t (code_of r.size v I));
  reached = λ v I. reached_by (ltb v r.size.junctions) (ltb I r.size.sets) (reached_at t (code_of r.size v I)) (label_cost r t (code_of r.size v I));
}

settled_parts : {K : Type 0} (x y : Bool) (n : ℕ) (m c : K) → settled_by x y n m ≡ Some c → (x ≡ true) × (y ≡ true) × (n ≡ 0 → ⊥) × (m ≡ c)
settled_parts {K} true true n m c e = let q = look (eqb n 0) refl e in (refl, refl, q.0, q.1)
  where
    look : (b : Bool) → eqb n 0 ≡ b → cond b None (Some m) ≡ Some c → (n ≡ 0 → ⊥) × (m ≡ c)
    look true h e = none≢some e
    look false h e = (eqb-false n 0 h, same_some e)
settled_parts true false n m c e = none≢some e
settled_parts false y n m c e = none≢some e

reached_parts : {K : Type 0} (x y z : Bool) (m c : K) → reached_by x y z m ≡ Some c → (x ≡ true) × (y ≡ true) × (z ≡ true) × (m ≡ c)
reached_parts true true true m c e = (refl, refl, refl, same_some e)
reached_parts true true false m c e = none≢some e
reached_parts true false z m c e = none≢some e
reached_parts false y z m c e = none≢some e

none_by : {K : Type 0} (x y : Bool) (m : K) → settled_by x y 0 m ≡ None
none_by true true m = refl
none_by true false m = refl
none_by false y m = refl

module _ {K : Type 0} (r : Rule K) (t : Tables K) (v I : ℕ) where
  abbrev c : ℕ
  c = code_of r.size v I

  pub settled_in : (k : K) → Settled (table_of r t) v I k → (v < r.size.junctions) × (I < r.size.sets) × (turn_at t c ≡ 0 → ⊥) × ((label_cost r t c) ≡ k)
  settled_in k h =
      let q = settled_parts (ltb v r.size.junctions) (ltb I r.size.sets) (turn_at t c) (label_cost r t c) k h in
      (ltb-true v r.size.junctions q.0, ltb-true I r.size.sets q.1, q.2, q.3)

  pub reached_in : (k : K) → (table_of r t).reached v I ≡ Some k → (v < r.size.junctions) × (I < r.size.sets) × ((reached_at t c) ≡ true) × ((label_cost r t c) ≡ k)
  reached_in k h =
      let q = reached_parts (ltb v r.size.junctions) (ltb I r.size.sets) (reached_at t c) (label_cost r t c) k h in
      (ltb-true v r.size.junctions q.0, ltb-true I r.size.sets q.1, q.2, q.3)

  pub unsettled : turn_at t c ≡ 0 → (table_of r t).settled v I ≡ None
  unsettled z =
      ap (λ n. settled_by (ltb v r.size.junctions) (ltb I r.size.sets) n (label_cost r t c)) z
      ∙ none_by (ltb v r.size.junctions) (ltb I r.size.sets) (label_cost r t c)

  module _ (vn : v < r.size.junctions) (In : I < r.size.sets) where
    pub settled_out : (turn_at t c ≡ 0 → ⊥) → Settled (table_of r t) v I (label_cost r t c)
    settled_out s =
        ap (λ x. settled_by x (ltb I r.size.sets) (turn_at t c) (label_cost r t c)) (lt-ltb v r.size.junctions vn)
        ∙ ap (λ x. settled_by true x (turn_at t c) (label_cost r t c)) (lt-ltb I r.size.sets In)
        ∙ ap (λ x. cond x None (Some (label_cost r t c))) (ne_eqb (turn_at t c) 0 s)

    pub reached_out : (reached_at t c) ≡ true → (table_of r t).reached v I ≡ Some (label_cost r t c)
    reached_out h =
        ap (λ x. reached_by x (ltb I r.size.sets) (reached_at t c) (label_cost r t c)) (lt-ltb v r.size.junctions vn)
        ∙ ap (λ x. reached_by true x (reached_at t c) (label_cost r t c)) (lt-ltb I r.size.sets In)
        ∙ ap (λ x. cond x (Some (label_cost r t c)) None) h

    -- reached at no more than m
    pub known_at : (m : K) → reached_at t c ≡ true → AtMost r.kind (label_cost r t c) m → Known r.kind (table_of r t) v I m
    known_at m h le =
        ⊎_elim
        (λ z. record { cost = (label_cost r t c); has = inr (unsettled z, reached_out h); within = le })
        (λ s. record { cost = (label_cost r t c); has = inl (settled_out s); within = le })
        (cases_eq (turn_at t c) 0)

  pub waiting_in : (k : K) → Waiting (table_of r t) v I k → (v < r.size.junctions) × (I < r.size.sets) × (turn_at t c ≡ 0) × ((reached_at t c) ≡ true) × ((label_cost r t c) ≡ k)
  waiting_in k w =
      let q = reached_in k w.1 in
      (q.0, q.1, ⊎_elim (λ z. z) (λ s. absurd (no_some _ _ w.0 (settled_out q.0 q.1 s))) (cases_eq (turn_at t c) 0), q.2, q.3)

-- the same turn, and the same cost where it is settled
pub settled_same : {K : Type 0} (r : Rule K) (t t' : Tables K) (v I : ℕ) → turn_at t' (code_of r.size v I) ≡ turn_at t (code_of r.size v I)
    → ((turn_at t (code_of r.size v I) ≡ 0 → ⊥) → (label_cost r t' (code_of r.size v I)) ≡ (label_cost r t (code_of r.size v I)))
    → (table_of r t').settled v I ≡ (table_of r t).settled v I
settled_same r t t' v I p q =
    ⊎_elim
    (λ z. unsettled r t' v I (p ∙ z) ∙ sym (unsettled r t v I z))
    (λ s. ap (λ n. settled_by (ltb v r.size.junctions) (ltb I r.size.sets) n (label_cost r t' (code_of r.size v I))) p
    ∙ ap (λ m. settled_by (ltb v r.size.junctions) (ltb I r.size.sets) (turn_at t (code_of r.size v I)) m) (q s))
    (cases_eq (turn_at t (code_of r.size v I)) 0)
