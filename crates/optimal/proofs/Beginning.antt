-- Before the first turn each outlet but the root waits at no cost; so to the end of the labelling. Assumes nothing.
use Rattle.std.proofs.Common.{◌≡◌, ℕ, ◌+◌, ◌^◌, ◌<◌, ◌≤◌, ltb, length, get_or, drop, Some, None, sym, refl, ap, ◌∙◌, subst, ⊎_elim, arith}
use lib.Bits.{or_disjoint}
use Rattle.std.proofs.lemmas.Bool.{cases_lt, le-ltb}
use Rattle.network.specs.Costs.{Laws, AtMost}
use Rattle.network.specs.Layouts.{Layout}
use Rattle.network.specs.Bounds.{others, placed, Lawful}
use Rattle.theory.specs.Derivations.{Deriv}
use Rattle.theory.specs.Search.{Searched, Starts, Alone}
use Rattle.theory.proofs.Front.{begins}
use Rattle.labelling.specs.declared.kinds.Back.{Back}
use Rattle.labelling.specs.declared.kinds.Back.TheVariants.{Start}
use Rattle.labelling.specs.Tables.{Rule, sum_of, Tables, codes, code_of, label_cost, turn_at, no_way}
use Rattle.labelling.specs.Offers.{offered}
use Rattle.labelling.specs.Runs.{Ends}
use Rattle.labelling.specs.Starts.{size_of, goal_of, blank, started, labelling_by, Within}
use Rattle.labelling.specs.declared.kinds.Outcome.{Outcome}
use Rattle.labelling.specs.declared.kinds.Outcome.TheVariants.{Finished, NoneWaits, Stopped}
use Rattle.labelling.specs.Labelling.{Labelled, ended}
use Rattle.labelling.specs.Tracing.{Trace, from_outlet, from_run, from_fork}
use Rattle.labelling.proofs.Offering.{code_within}
use Rattle.labelling.proofs.Starting.{length_wiped}
use Rattle.labelling.proofs.Writing.{offered_grown}
use Rattle.labelling.proofs.Folding.{started_kept, labelled_ends}
use Rattle.labelling.proofs.Turning.{Long, long_grown}
use Rattle.labelling.proofs.Ended.{length_rest, getd_rest, blank_turn, run_ends, unions, placed_within, single_within, Kept, kept_start, kept_turn}
use Rattle.optimal.proofs.Bridge.{settled_by, table_of, unsettled, settled_out, reached_in, reached_out}
use Rattle.optimal.proofs.Reaching.{Reach, reach_offered, reach_made}
use Rattle.optimal.proofs.Searching.{outside, cheap, searched_turn}

-- what is settled at the end costs no more than any derivation, and unless the goal was settled every candidate was tried
pub record Right {K : Type 0} (r : Rule K) (l : Layout K) (x : Labelled K) : Type 0 where
  pub cheap : (w J : ℕ) → w < r.size.junctions → J < r.size.sets → (turn_at x.left (code_of r.size w J) ≡ 0 → ⊥)
      → (d : K) → Deriv r.kind l w J d → AtMost r.kind (label_cost r x.left (code_of r.size w J)) d
  pub searched : (x.ending.outcome ≡ Finished → ⊥) → Searched r.kind l (table_of r x.left)

right_from : {K : Type 0} (r : Rule K) (l : Layout K) (o : Outcome K) (n : ℕ) (s : Tables K) → Searched r.kind l (table_of r s) → Right r l (ended o n s)
right_from r l o n s h = record { cheap = λ w J wn Jn was d x. h.cheapest w J _ d (settled_out r s w J wn Jn was) x; searched = λ no. h }

module _ {K : Type 0} (r : Rule K) (laws : Laws r.kind) (sums : (a b : K) → sum_of r a b ≡ Some (r.kind.plus a b)) (l : Layout K)
    (is : r.size ≡ size_of l) (ends : Ends l.junctions l.runs) (inside : Within l.junctions l.outlets) (some : 0 < length l.outlets)
    (t : Tables K) (in-labels : codes r.size ≤ length t.labels) (in_ways : codes r.size ≤ length t.ways) where
  -- the first i outlets beside the root were offered, and nothing is settled
  record Offered (i : ℕ) (y : Tables K) : Type 0 where
    long : Long r y
    fresh : (c : ℕ) → c < codes r.size → turn_at y c ≡ 0
    tried : (j : ℕ) → j < i → j < others l → Reach r y (code_of r.size (placed l j) (2 ^ j)) r.kind.zero

  first : Offered 0 (blank r t)
  first = record {
    long = record {
      labels = let e = length_wiped None (codes r.size) t.labels in-labels in omega arith;
      ways = let e = length_wiped no_way (codes r.size) t.ways in_ways in omega arith;
    };
    fresh = blank_turn r t;
    tried = λ j lt. absurd (omega arith);
  }

  more : (i : ℕ) (y : Tables K) → i < length (drop 1 l.outlets) → Offered i y → Offered (i + 1) (offered r y (record { v = get_or (drop 1 l.outlets) i 0; set = 2 ^ i; cost = r.kind.zero }) Start)
  more i y lt h =
      let v = get_or (drop 1 l.outlets) i 0 in
      let in-others : i < others l = let e = length_rest l.outlets in omega arith in
      let is-v : v ≡ placed l i = getd_rest l.outlets i in
      let vn : v < r.size.junctions = subst (λ m. m < r.size.junctions) (sym is-v) (placed_within r l is ends inside some i in-others) in
      let within = code_within r.size v (2 ^ i) vn (single_within r l is ends inside some i in-others) in
      let long = h.long in
      let g = offered_grown r y (record { v = v; set = 2 ^ i; cost = r.kind.zero }) Start (omega arith) in
      record {
        long = long_grown r y _ g h.long;
        fresh = λ c lt. g.turns c ∙ h.fresh c lt;
        tried = λ j jlt jn.
            ⊎_elim
            (λ less. reach_offered r laws y _ _ _ _ (h.tried j less jn))
            (λ ge. let e : i ≡ j = omega arith in
            subst (λ m. Reach r (offered r y (record { v = v; set = 2 ^ i; cost = r.kind.zero }) Start) (code_of r.size (placed l m) (2 ^ m)) r.kind.zero) e
            (subst (λ m. Reach r (offered r y (record { v = v; set = 2 ^ i; cost = r.kind.zero }) Start) (code_of r.size m (2 ^ i)) r.kind.zero) is-v
            (reach_made r laws y (record { v = v; set = 2 ^ i; cost = r.kind.zero }) Start (r.kind.plus r.kind.zero (r.bound v (2 ^ i))) (sums r.kind.zero (r.bound v (2 ^ i))) (omega arith) (λ s. absurd (s (h.fresh _ within))))))
            (cases_lt j i);
      }

  abbrev begun : Tables K
  begun = started r 0 (drop 1 l.outlets) (blank r t)

  all_offered : Offered (length (drop 1 l.outlets)) begun
  all_offered = started_kept r (drop 1 l.outlets) Offered more (blank r t) first

  abbrev Holds : ℕ → Tables K → Type 0
  Holds n s = Kept r l is ends inside some t in-labels in_ways n s

  held : Holds 0 begun
  held = kept_start r l is ends inside some t in-labels in_ways

  no_turn : (v I : ℕ) → v < r.size.junctions → I < r.size.sets → turn_at begun (code_of r.size v I) ≡ 0
  no_turn v I vn In = let h = held.traced.turns v I vn In in omega arith

  alone : (v I : ℕ) → v < r.size.junctions → I < r.size.sets → (c : K) (b : Back) → Trace r l begun v I c b → Alone r.kind l v I c
  alone v I vn In c b (from_outlet i lt is-v is-I is_c) = record { place = i; within = lt; junction = is-v; set = is-I; cost = is_c }
  alone v I vn In c b (from_run w k link wn e s) = absurd (e.settled (no_turn w I wn In))
  alone v I vn In c b (from_fork {J = J} I' a a' apart whole e e' s) = let sum = or_disjoint I' J apart in absurd (e.settled (no_turn v I' vn (omega arith)))

  starts : Starts r.kind l (table_of r begun)
  starts = record {
    unsettled = λ v I. ⊎_elim (λ In. ⊎_elim (λ vn. unsettled r begun v I (no_turn v I vn In)) (λ ge. beyond v I ge) (cases_lt v r.size.junctions)) (λ ge. outside r begun v I ge) (cases_lt I r.size.sets);
    outlets = λ i lt.
        let long = length_rest l.outlets in
        let x = all_offered.tried i (omega arith) lt in
        reached_out r begun (placed l i) (2 ^ i) (placed_within r l is ends inside some i lt) (single_within r l is ends inside some i lt) x.0
        ∙ ap Some (laws.equal _ _ (laws.least _) x.1);
    no_others = λ v I c h.
        let q = reached_in r begun v I c h in
        subst (Alone r.kind l v I) q.3 (alone v I q.0 q.1 _ _ (held.traced.trace v I q.0 q.1 q.2));
  }
    where
      beyond : (v I : ℕ) → r.size.junctions ≤ v → (table_of r begun).settled v I ≡ None
      beyond v I ge = ap (λ x. settled_by x (ltb I r.size.sets) (turn_at begun (code_of r.size v I)) (label_cost r begun (code_of r.size v I))) (le-ltb v r.size.junctions ge)

  pub searched_start : Searched r.kind l (table_of r begun)
  searched_start = (begins laws starts).0

  -- ---- to the end
  pub right_end : Lawful r.kind l r.bound → (limit : ℕ) → Right r l (labelling_by r l limit t)
  right_end law limit =
      labelled_ends r l.«open» l.runs (goal_of l) limit (λ n s. Holds n s × Searched r.kind l (table_of r s)) (Right r l)
      (λ n s p h lt least ne. (
        kept_turn r l is ends inside some t in-labels in_ways n s p h.0 least ne,
        searched_turn r laws sums l (run_ends r l is ends inside some) (unions r l is ends inside some) law n s h.0.traced h.0.long p least h.1,
      ))
      (λ n s p h lt least e. record {
        cheap = cheap r laws sums l (run_ends r l is ends inside some) (unions r l is ends inside some) law n s h.0.traced h.0.long p least h.1;
        searched = λ no. absurd (no refl);
      })
      (λ n s h le least. right_from r l NoneWaits n s h.1)
      (λ n s p h e least. right_from r l (Stopped p.0) n s h.1)
      limit 0 begun (omega arith) (held, searched_start)
