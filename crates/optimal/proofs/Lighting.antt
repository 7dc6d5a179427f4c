-- The costs of a labelling with exact sums are light. Assumes nothing.
use Rattle.std.proofs.Common.{◌≡◌, ℕ, ◌+◌, ◌^◌, ◌<◌, ◌≤◌, true, cond, length, get_or, Some, None, ap, ◌∙◌, subst, arith}
use lib.Bits.{or_disjoint}
use Rattle.std.proofs.lemmas.Bool.{le-leb}
use Rattle.network.specs.declared.run.Run.{Run}
use Rattle.network.specs.Costs.{Kind, Laws, AtMost}
use Rattle.network.specs.Layouts.{Layout, Priced}
use Rattle.theory.specs.Derivations.{Deriv}
use Rattle.theory.proofs.Paths.{same_some}
use Rattle.theory.proofs.Lightness.{cheapest_light}
use Rattle.labelling.specs.declared.kinds.Back.{Back}
use Rattle.labelling.specs.declared.kinds.Place.{Place}
use Rattle.labelling.specs.Tables.{Rule, exactly, sum_of, Tables, code_of, label_cost, reached_at, turn_at}
use Rattle.labelling.specs.Offers.{keyed, offered}
use Rattle.labelling.specs.Starts.{rule_of}
use Rattle.labelling.specs.Tracing.{Trace, from_outlet, from_run, from_fork, Traced}
use Rattle.optimal.proofs.Deriving.{picked_out, settled_deriv}

module _ {K : Type 0} (kind : Kind K) (laws : Laws kind) (bound : ℕ → ℕ → K) (l : Layout K) (few : length l.runs ≤ 4096) (priced : Priced kind l.runs) where
  abbrev r : Rule K
  r = rule_of kind bound l

  abbrev e : Rule K
  e = exactly r

  -- two light costs have their sum
  pub sum_fits : (a b : K) → kind.bulk a + kind.bulk b ≤ 2 ^ 50 → sum_of r a b ≡ Some (kind.plus a b)
  sum_fits a b h = ap (λ y. cond y (Some (kind.plus a b)) None) (le-leb (kind.bulk a + kind.bulk b) (2 ^ 50) h)

  pub run_light : (i : ℕ) (x : Run K) → i < length l.runs → ((d : Run K) → get_or l.runs i d ≡ x) → kind.bulk x.cost ≤ 1000000
  run_light i x lt is = subst (λ (y : Run K). kind.bulk y.cost ≤ 1000000) (is x) (priced i x lt).bulk_within

  -- an offer with a light cost and a light bound
  pub offered_same : (t : Tables K) (p : Place K) (b : Back) → kind.bulk p.cost + kind.bulk (bound p.v p.set) ≤ 2 ^ 50 → offered r t p b ≡ offered e t p b
  offered_same t p b h = ap (keyed r t (code_of r.size p.v p.set) p.cost b) (sum_fits p.cost (bound p.v p.set) h)

  -- in tables where what is settled is cheapest
  module _ (n : ℕ) (t : Tables K) (traced : Traced e l n t)
      (cheap : (w J : ℕ) → w < l.junctions → J < e.size.sets → (turn_at t (code_of e.size w J) ≡ 0 → ⊥) → (d : K) → Deriv kind l w J d → AtMost kind (label_cost e t (code_of e.size w J)) d) where
    pub settled_light : (w J : ℕ) → w < l.junctions → J < e.size.sets → (turn_at t (code_of e.size w J) ≡ 0 → ⊥) → kind.bulk (label_cost e t (code_of e.size w J)) ≤ 4096000000
    settled_light w J wn Jn h =
        let q = cheapest_light laws l priced w J _ (record { derived = settled_deriv e laws l n t traced w J wn Jn h; least = cheap w J wn Jn h }) in
        omega arith

    trace_light : (v I : ℕ) → v < l.junctions → I < e.size.sets → (c : K) (b : Back) → Trace e l t v I c b → kind.bulk c ≤ 8192000000
    trace_light v I vn In c b (from_outlet i lt is-v is-I is_c) = let z = ap kind.bulk is_c ∙ laws.bulk_zero in omega arith
    trace_light v I vn In c b (from_run {i = i} w k link wn h s) =
        let q = picked_out l.runs l.«open» i link.run link.is_open in
        let run : kind.bulk k ≤ 1000000 = subst (λ x. kind.bulk x ≤ 1000000) link.leads.costs (run_light i link.run q.1 q.2) in
        let old = settled_light w I wn In h.settled in
        let sum = laws.bulk_plus (label_cost e t (code_of e.size w I)) k in
        let is = ap kind.bulk (same_some s) in
        omega arith
    trace_light v I vn In c b (from_fork {J = J} I' a a' apart whole h h' s) =
        let total = or_disjoint I' J apart in
        let one = settled_light v I' vn (omega arith) h.settled in
        let two = settled_light v J vn (omega arith) h'.settled in
        let sum = laws.bulk_plus (label_cost e t (code_of e.size v I')) (label_cost e t (code_of e.size v J)) in
        let is = ap kind.bulk (same_some s) in
        omega arith

    pub reached_light : (v I : ℕ) → v < l.junctions → I < e.size.sets → reached_at t (code_of e.size v I) ≡ true → kind.bulk (label_cost e t (code_of e.size v I)) ≤ 8192000000
    reached_light v I vn In h = trace_light v I vn In _ _ (traced.trace v I vn In h)
