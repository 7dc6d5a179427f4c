-- A candidate and a settled code keep the traces. Assumes nothing.
use Rattle.std.proofs.Common.{◌≡◌, ℕ, ◌+◌, ◌<◌, ◌≤◌, true, length, sym, refl, ap, ◌∙◌, subst, ⊎_elim, arith, Option, is_some, unwrap_or}
use lib.Bits.{or_disjoint}
use Rattle.std.proofs.lemmas.Bool.{cases_eq}
use Rattle.network.specs.Layouts.{Layout}
use Rattle.labelling.specs.declared.kinds.Back.{Back}
use Rattle.labelling.specs.declared.kinds.Place.{Place}
use Rattle.labelling.specs.Tables.{Rule, sum_of, Tables, code_of, label_cost, reached_at, label_at, turn_at}
use Rattle.labelling.specs.Offers.{written, offered}
use Rattle.labelling.specs.Turns.{settled}
use Rattle.labelling.specs.Tracing.{Earlier, Trace, from_outlet, from_run, from_fork, Traced}
use Rattle.labelling.proofs.Writing.{code_same, back_at, back_other, label_other, back_here, label_here, Grown, written_grown, improves_fresh, offered_either, settled_other, settled_here, settled_back}

-- ---- traces in other tables
module _ {K : Type 0} (r : Rule K) (l : Layout K) (t t' : Tables K) where
  pub trace_moved : (v I : ℕ) → v < r.size.junctions → I < r.size.sets
      → ((w J : ℕ) → w < r.size.junctions → J < r.size.sets → Earlier t (code_of r.size v I) (code_of r.size w J) → Earlier t' (code_of r.size v I) (code_of r.size w J))
      → ((d : ℕ) → (turn_at t d ≡ 0 → ⊥) → label_at t' d ≡ label_at t d)
      → (cost : K) (b : Back) → Trace r l t v I cost b → Trace r l t' v I cost b
  trace_moved v I vn In early same cost b (from_outlet i lt is-v is-I is_c) = from_outlet i lt is-v is-I is_c
  trace_moved v I vn In early same cost b (from_run w k link wn e s) =
      from_run w k link wn (early w I wn In e) (ap (λ (x : Option K). sum_of r (unwrap_or x r.kind.zero) k) (same _ e.settled) ∙ s)
  trace_moved v I vn In early same cost b (from_fork {J = J} I' a c apart whole e f s) =
      let sum = or_disjoint I' J apart in
      from_fork I' a c apart whole (early v I' vn (omega arith) e) (early v J vn (omega arith) f)
      (ap (λ (x : Option K). sum_of r (unwrap_or x r.kind.zero) (label_cost r t' (code_of r.size v J))) (same _ e.settled)
      ∙ ap (λ (x : Option K). sum_of r (label_cost r t (code_of r.size v I')) (unwrap_or x r.kind.zero)) (same _ f.settled) ∙ s)

  earlier_grown : Grown r t t' → (c d : ℕ) → Earlier t c d → Earlier t' c d
  earlier_grown g c d e = record {
    settled = λ z. e.settled (sym (g.turns d) ∙ z);
    sooner = λ s. let h = e.sooner (λ z. s (g.turns c ∙ z)) in let a = g.turns c in let b = g.turns d in omega arith;
  }

  pub trace_grown : Grown r t t' → (v I : ℕ) → v < r.size.junctions → I < r.size.sets → (cost : K) (b : Back) → Trace r l t v I cost b → Trace r l t' v I cost b
  trace_grown g v I vn In = trace_moved v I vn In (λ w J wn Jn. earlier_grown g _ _) g.labels

-- the trace of a label, as the tables have it
abbrev Arrived : {K : Type 0} → Rule K → Layout K → Tables K → ℕ → ℕ → Type 0
Arrived r l t v I = Trace r l t v I (label_cost r t (code_of r.size v I)) (back_at t (code_of r.size v I))

-- ---- a candidate that has a trace
module _ {K : Type 0} (r : Rule K) (l : Layout K) (n : ℕ) (t : Tables K) (traced : Traced r l n t) where
  module _ (w J : ℕ) (wn : w < r.size.junctions) (Jn : J < r.size.sets) (some : J ≡ 0 → ⊥) (k : K) (b : Back)
      (in-labels : code_of r.size w J < length t.labels) (in_ways : code_of r.size w J < length t.ways)
      (fresh : turn_at t (code_of r.size w J) ≡ 0) (trace : Trace r l t w J k b) where
    abbrev c : ℕ
    c = code_of r.size w J

    abbrev t' : Tables K
    t' = written t c k b

    grown : Grown r t t'
    grown = written_grown r t c k b in_ways fresh

    new : Arrived r l t' w J
    new =
        subst (λ x. Trace r l t' w J x (back_at t' c)) (sym (ap (λ x. unwrap_or x r.kind.zero) (label_here r t c k b in-labels)))
        (subst (λ x. Trace r l t' w J k x) (sym (back_here r t c k b in_ways)) (trace_grown r l t t' grown w J wn Jn k b trace))

    old : (v I : ℕ) → v < r.size.junctions → I < r.size.sets → (code_of r.size v I ≡ c → ⊥) → reached_at t' (code_of r.size v I) ≡ true → Arrived r l t' v I
    old v I vn In ne h =
        let d = code_of r.size v I in
        let e = label_other r t c k b d ne in
        subst (λ (x : Option K). Trace r l t' v I (unwrap_or x r.kind.zero) (back_at t' d)) (sym e)
        (subst (λ x. Trace r l t' v I (label_cost r t d) x) (sym (back_other r t c k b d ne))
        (trace_grown r l t t' grown v I vn In _ _ (traced.trace v I vn In (ap is_some (sym e) ∙ h))))

    pub written_traced : Traced r l n t'
    written_traced = record {
      some = λ v I vn In h.
          ⊎_elim
          (λ e z. some (sym (code_same r.size v w I J In Jn e).1 ∙ z))
          (λ ne. traced.some v I vn In (ap is_some (sym (label_other r t c k b _ ne)) ∙ h))
          (cases_eq (code_of r.size v I) c);
      trace = λ v I vn In h.
          ⊎_elim
          (λ e. let q = code_same r.size v w I J In Jn e in subst (λ x. Arrived r l t' x I) (sym q.0) (subst (λ x. Arrived r l t' w x) (sym q.1) new))
          (λ ne. old v I vn In ne h)
          (cases_eq (code_of r.size v I) c);
      reached = λ v I vn In s.
          ⊎_elim
          (λ e. ap (λ d. reached_at t' d) e ∙ ap is_some (label_here r t c k b in-labels))
          (λ ne. ap is_some (label_other r t c k b _ ne) ∙ traced.reached v I vn In (λ z. s (grown.turns _ ∙ z)))
          (cases_eq (code_of r.size v I) c);
      turns = λ v I vn In. subst (λ m. m ≤ n) (sym (grown.turns (code_of r.size v I))) (traced.turns v I vn In);
    }

  pub offered_traced : (p : Place K) (b : Back) → p.v < r.size.junctions → p.set < r.size.sets → (p.set ≡ 0 → ⊥)
      → code_of r.size p.v p.set < length t.labels → code_of r.size p.v p.set < length t.ways
      → (turn_at t (code_of r.size p.v p.set) ≡ 0 → Trace r l t p.v p.set p.cost b) → Traced r l n (offered r t p b)
  offered_traced p b vn In some in-labels in_ways trace =
      offered_either r t p b (Traced r l n) (λ e. traced) (λ e. traced)
      (λ h. let fresh = improves_fresh r t (code_of r.size p.v p.set) p.cost h in written_traced p.v p.set vn In some p.cost b in-labels in_ways fresh (trace fresh))

  -- ---- a code settled in the next turn
  module _ (c : ℕ) (in_ways : c < length t.ways) (fresh : turn_at t c ≡ 0) (reached : reached_at t c ≡ true) where
    abbrev s : Tables K
    s = settled t c (n + 1)

    settled_kept : (d : ℕ) → (turn_at t d ≡ 0 → ⊥) → turn_at s d ≡ turn_at t d
    settled_kept d h = settled_other t c (n + 1) d (λ e. h (ap (turn_at t) e ∙ fresh))

    earlier_settled : (x w J : ℕ) → w < r.size.junctions → J < r.size.sets → Earlier t x (code_of r.size w J) → Earlier s x (code_of r.size w J)
    earlier_settled x w J wn Jn e =
        let d = code_of r.size w J in
        let same = settled_kept d e.settled in
        record {
          settled = λ z. e.settled (sym same ∙ z);
          sooner = λ h.
              ⊎_elim
              (λ q. let at : turn_at s x ≡ n + 1 = ap (turn_at s) q ∙ settled_here t c (n + 1) in_ways in let b = traced.turns w J wn Jn in omega arith)
              (λ ne. let at = settled_other t c (n + 1) x ne in let b = e.sooner (λ z. h (at ∙ z)) in omega arith)
              (cases_eq x c);
        }

    pub settled_traced : Traced r l (n + 1) s
    settled_traced = record {
      some = traced.some;
      trace = λ v I vn In h.
          subst (λ x. Trace r l s v I (label_cost r t (code_of r.size v I)) x) (sym (settled_back t c (n + 1) (code_of r.size v I) in_ways))
          (trace_moved r l t s v I vn In (λ w J wn Jn. earlier_settled (code_of r.size v I) w J wn Jn) (λ d q. refl) _ _ (traced.trace v I vn In h));
      reached = λ v I vn In h.
          ⊎_elim
          (λ e. ap (λ d. reached_at t d) e ∙ reached)
          (λ ne. traced.reached v I vn In (λ z. h (settled_other t c (n + 1) _ ne ∙ z)))
          (cases_eq (code_of r.size v I) c);
      turns = λ v I vn In.
          ⊎_elim
          (λ e. let at : turn_at s (code_of r.size v I) ≡ n + 1 = ap (turn_at s) e ∙ settled_here t c (n + 1) in_ways in omega arith)
          (λ ne. let at = settled_other t c (n + 1) (code_of r.size v I) ne in let b = traced.turns v I vn In in omega arith)
          (cases_eq (code_of r.size v I) c);
    }
