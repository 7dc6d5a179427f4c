-- A labelling keeps the traces from its start to its end. Assumes nothing.
use Rattle.std.proofs.Common.{◌≡◌, ℕ, zero, suc, ◌+◌, ◌-◌, ◌^◌, ◌<◌, ◌≤◌, true, ◌≢◌, List, [], ◌∷◌, length, get_or, drop, Some, None, sym, refl, ap, ◌∙◌, subst, arith, is_some}
use Rattle.std.proofs.lemmas.Nat.{pow_pos, pow_below}
use Rattle.std.proofs.lemmas.Bool.{false≢true}
use Rattle.network.specs.Layouts.{Layout}
use Rattle.network.specs.Bounds.{others, placed, root, sets, all_others}
use Rattle.labelling.specs.declared.kinds.Way.{Way}
use Rattle.labelling.specs.declared.kinds.Size.{Size}
use Rattle.labelling.specs.declared.kinds.Back.TheVariants.{Start}
use Rattle.labelling.specs.declared.kinds.Outcome.{Outcome}
use Rattle.labelling.specs.declared.kinds.Outcome.TheVariants.{Finished, NoneWaits, Stopped}
use Rattle.labelling.specs.Tables.{Rule, Tables, codes, code_of, reached_at, label_at, turn_at, no_way, least_waiting}
use Rattle.labelling.specs.Offers.{offered}
use Rattle.labelling.specs.Runs.{Ends}
use Rattle.labelling.specs.Forks.{Closed}
use Rattle.labelling.specs.Turns.{place_at, settled, turned}
use Rattle.labelling.specs.Starts.{size_of, goal_of, blank, started, labelling_by, Within}
use Rattle.labelling.specs.Labelling.{Labelled}
use Rattle.labelling.specs.Tracing.{from_outlet, Traced}
use Rattle.labelling.proofs.Offering.{code_within}
use Rattle.labelling.proofs.Starting.{getd_wiped, length_wiped, closed_sets}
use Rattle.labelling.proofs.Writing.{offered_grown, settled_other, settled_here, settled_long}
use Rattle.labelling.proofs.Folding.{started_kept, labelled_ends}
use Rattle.labelling.proofs.Choosing.{Waits, least_waits}
use Rattle.labelling.proofs.Tracing.{offered_traced, settled_traced}
use Rattle.labelling.proofs.Turning.{Long, long_grown, Going, taken_v, taken_set, taken_some, going_end}

pub within_at : (n : ℕ) (xs : List ℕ) → Within n xs → (i : ℕ) → i < length xs → get_or xs i 0 < n
within_at n [] h i lt = absurd (omega arith)
within_at n (x ∷ xs) h zero lt = h.0
within_at n (x ∷ xs) h (suc i) lt = within_at n xs h.1 i (omega arith)

pub length_rest : (xs : List ℕ) → length (drop 1 xs) ≡ length xs - 1
length_rest [] = refl
length_rest (x ∷ xs) = omega arith

pub getd_rest : (xs : List ℕ) (k : ℕ) → get_or (drop 1 xs) k 0 ≡ get_or xs (suc k) 0
getd_rest [] k = refl
getd_rest (x ∷ xs) k = refl

-- ---- blank tables
module _ {K : Type 0} (r : Rule K) (t : Tables K) where
  pub blank_label : (c : ℕ) → c < codes r.size → label_at (blank r t) c ≡ None
  blank_label c lt = getd_wiped None (codes r.size) t.labels c None lt

  pub blank_turn : (c : ℕ) → c < codes r.size → turn_at (blank r t) c ≡ 0
  blank_turn c lt = ap (λ (w : Way). w.turn) (getd_wiped no_way (codes r.size) t.ways c no_way lt)

  unreached : {G : Type 0} (v I : ℕ) → v < r.size.junctions → I < r.size.sets → reached_at (blank r t) (code_of r.size v I) ≡ true → G
  unreached v I vn In h =
      absurd (false≢true (ap is_some (sym (blank_label (code_of r.size v I) (code_within r.size v I vn In))) ∙ h))

  pub blank_traced : (l : Layout K) → Traced r l 0 (blank r t)
  blank_traced l = record {
    some = λ v I vn In h. unreached v I vn In h;
    trace = λ v I vn In h. unreached v I vn In h;
    reached = λ v I vn In h. absurd (h (blank_turn (code_of r.size v I) (code_within r.size v I vn In)));
    turns = λ v I vn In. let e = blank_turn (code_of r.size v I) (code_within r.size v I vn In) in omega arith;
  }

-- how a labelling ended: finished, the goal was settled in the last turn; none waits, none waits;
-- stopped, there were as many turns as the limit, and the floor is the least key that waits
abbrev pub EndedAs : {K : Type 0} → Rule K → ℕ → ℕ → ℕ → Tables K → Outcome K → Type 0
EndedAs r goal limit n t Finished = (turn_at t goal ≡ n) × (0 < n)
EndedAs r goal limit n t NoneWaits = (least_waiting r t ≡ None) × (turn_at t goal ≡ 0)
EndedAs {K} r goal limit n t (Stopped k) = (n ≡ limit) × ((c : ℕ) × (least_waiting r t ≡ Some (k, c))) × (turn_at t goal ≡ 0)

pub record Ended {K : Type 0} (r : Rule K) (l : Layout K) (limit : ℕ) (t0 : Tables K) (x : Labelled K) : Type 0 where
  pub traced : Traced r l x.ending.turns x.left
  pub labels_long : length x.left.labels ≡ length t0.labels
  pub ways_long : length x.left.ways ≡ length t0.ways
  pub within : x.ending.turns ≤ limit
  pub how : EndedAs r (goal_of l) limit x.ending.turns x.left x.ending.outcome

module _ {K : Type 0} (r : Rule K) (l : Layout K) (is : r.size ≡ size_of l) (ends : Ends l.junctions l.runs) (inside : Within l.junctions l.outlets)
    (some : 0 < length l.outlets) where
  is_junctions : r.size.junctions ≡ l.junctions
  is_junctions = ap (λ (s : Size). s.junctions) is

  is_sets : r.size.sets ≡ sets l
  is_sets = ap (λ (s : Size). s.sets) is

  pub run_ends : Ends r.size.junctions l.runs
  run_ends = subst (λ n. Ends n l.runs) (sym is_junctions) ends

  pub unions : Closed r.size.sets
  unions = closed_sets r.size.sets (others l) is_sets

  pub placed_within : (i : ℕ) → i < others l → placed l i < r.size.junctions
  placed_within i lt = subst (λ n. placed l i < n) (sym is_junctions) (within_at l.junctions l.outlets inside (suc i) (omega arith))

  pub single_within : (i : ℕ) → i < others l → 2 ^ i < r.size.sets
  single_within i lt = subst (λ n. 2 ^ i < n) (sym is_sets) (pow_below i (others l) lt)

  pub goal_is : goal_of l ≡ code_of r.size (root l) (all_others l)
  goal_is = ap (λ s. code_of s (root l) (all_others l)) (sym is)

  pub goal_within : goal_of l < codes r.size
  goal_within =
      subst (λ s. goal_of l < codes s) (sym is)
      (code_within (size_of l) (root l) (all_others l) (within_at l.junctions l.outlets inside 0 some) (let p = pow_pos (others l) in omega arith))

  module _ (t : Tables K) (in-labels : codes r.size ≤ length t.labels) (in_ways : codes r.size ≤ length t.ways) where
    -- after n turns, the goal not settled yet
    pub record Kept (n : ℕ) (s : Tables K) : Type 0 where
      pub traced : Traced r l n s
      pub long : Long r s
      pub labels_long : length s.labels ≡ length t.labels
      pub ways_long : length s.ways ≡ length t.ways
      pub goal : turn_at s (goal_of l) ≡ 0

    kept_blank : Kept 0 (blank r t)
    kept_blank = record {
      traced = blank_traced r t l;
      long = record {
        labels = let e = length_wiped None (codes r.size) t.labels in-labels in omega arith;
        ways = let e = length_wiped no_way (codes r.size) t.ways in_ways in omega arith;
      };
      labels_long = length_wiped None (codes r.size) t.labels in-labels;
      ways_long = length_wiped no_way (codes r.size) t.ways in_ways;
      goal = blank_turn r t (goal_of l) goal_within;
    }

    kept_outlet : (i : ℕ) (s : Tables K) → i < length (drop 1 l.outlets) → Kept 0 s → Kept 0 (offered r s (record { v = get_or (drop 1 l.outlets) i 0; set = 2 ^ i; cost = r.kind.zero }) Start)
    kept_outlet i s lt h =
        let v = get_or (drop 1 l.outlets) i 0 in
        let in-others : i < others l = let e = length_rest l.outlets in omega arith in
        let is-v : v ≡ placed l i = getd_rest l.outlets i in
        let vn : v < r.size.junctions = subst (λ n. n < r.size.junctions) (sym is-v) (placed_within i in-others) in
        let within = code_within r.size v (2 ^ i) vn (single_within i in-others) in
        let long = h.long in
        let g = offered_grown r s (record { v = v; set = 2 ^ i; cost = r.kind.zero }) Start (omega arith) in
        record {
          traced = offered_traced r l 0 s h.traced (record { v = v; set = 2 ^ i; cost = r.kind.zero }) Start vn (single_within i in-others) (λ z. let p = pow_pos i in omega arith) (omega arith) (omega arith)
              (λ fresh. from_outlet i in-others is-v refl refl);
          long = long_grown r s _ g h.long;
          labels_long = g.labels_long ∙ h.labels_long;
          ways_long = g.ways_long ∙ h.ways_long;
          goal = g.turns (goal_of l) ∙ h.goal;
        }

    pub kept_start : Kept 0 (started r 0 (drop 1 l.outlets) (blank r t))
    kept_start = started_kept r (drop 1 l.outlets) (λ i s. Kept 0 s) kept_outlet (blank r t) kept_blank

    module _ (n : ℕ) (s : Tables K) (p : K × ℕ) (h : Kept n s) (least : least_waiting r s ≡ Some p) where
      waits : Waits r s p.1 p.0
      waits = least_waits r s p least

      going : Going r l run_ends unions (n + 1) (place_at r s p.1) (taken_v r l run_ends unions n s h.traced h.long p least) (taken_set r l run_ends unions n s h.traced h.long p least) (taken_some r l run_ends unions n s h.traced h.long p least) (settled s p.1 (n + 1)) (turned r l.«open» l.runs (n + 1) s)
      going = going_end r l run_ends unions n s h.traced h.long p least

      -- the code that was taken is settled in this turn, and the other turns are as they were
      pub turned_here : turn_at (turned r l.«open» l.runs (n + 1) s) p.1 ≡ n + 1
      turned_here = going.grown.turns p.1 ∙ settled_here s p.1 (n + 1) (let w = waits.within in let k = h.long.ways in omega arith)

      pub turned_other : (d : ℕ) → d ≢ p.1 → turn_at (turned r l.«open» l.runs (n + 1) s) d ≡ turn_at s d
      turned_other d ne = going.grown.turns d ∙ settled_other s p.1 (n + 1) d ne

      pub turned_traced : Traced r l (n + 1) (turned r l.«open» l.runs (n + 1) s)
      turned_traced = going.traced

      pub turned_labels : length (turned r l.«open» l.runs (n + 1) s).labels ≡ length t.labels
      turned_labels = going.grown.labels_long ∙ h.labels_long

      pub turned_ways : length (turned r l.«open» l.runs (n + 1) s).ways ≡ length t.ways
      turned_ways = going.grown.ways_long ∙ settled_long s p.1 (n + 1) ∙ h.ways_long

      pub kept_turn : (p.1 ≡ goal_of l → ⊥) → Kept (n + 1) (turned r l.«open» l.runs (n + 1) s)
      kept_turn ne = record {
        traced = turned_traced;
        long = going.long;
        labels_long = turned_labels;
        ways_long = turned_ways;
        goal = turned_other (goal_of l) (λ e. ne (sym e)) ∙ h.goal;
      }

    pub labelling_ended : (limit : ℕ) → Ended r l limit t (labelling_by r l limit t)
    labelling_ended limit =
        labelled_ends r l.«open» l.runs (goal_of l) limit Kept (Ended r l limit t)
        (λ n s p h lt least ne. kept_turn n s p h least ne)
        (λ n s p h lt least e. let w = least_waits r s p least in let k : p.1 < length s.ways = let i = w.within in let m = h.long.ways in omega arith in record {
          traced = settled_traced r l n s h.traced p.1 k w.fresh w.reached;
          labels_long = h.labels_long;
          ways_long = settled_long s p.1 (n + 1) ∙ h.ways_long;
          within = omega arith;
          how = (ap (turn_at (settled s p.1 (n + 1))) (sym e) ∙ settled_here s p.1 (n + 1) k, omega arith);
        })
        (λ n s h le least. record { traced = h.traced; labels_long = h.labels_long; ways_long = h.ways_long; within = le; how = (least, h.goal) })
        (λ n s p h e least. record { traced = h.traced; labels_long = h.labels_long; ways_long = h.ways_long; within = omega arith; how = (e, (p.1, least), h.goal) })
        limit 0 (started r 0 (drop 1 l.outlets) (blank r t)) (omega arith) kept_start
