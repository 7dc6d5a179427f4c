-- A turn with exact sums keeps what holds between the turns of a search. Assumes nothing.
use Rattle.std.proofs.Common.{◌≡◌, ℕ, ◌+◌, ◌/◌, ◌%◌, ◌<◌, ◌≤◌, Bool, true, false, cond, ltb, ◌≢◌, ◌⊎◌, Some, None, Option, sym, refl, ap, ◌∙◌, subst, ⊎_elim, unwrap_or}
use lib.Bits.{bit_and, bit_or}
use Rattle.std.proofs.lemmas.Bool.{cases_lt, cases_eq, le-ltb}
use Rattle.network.specs.Costs.{Laws, AtMost}
use Rattle.network.specs.Layouts.{Layout}
use Rattle.network.specs.Bounds.{Lawful}
use Rattle.theory.specs.Derivations.{Deriv}
use Rattle.theory.specs.Search.{Settled, Known, Searched, Next, Turn}
use Rattle.theory.proofs.Paths.{same_some}
use Rattle.theory.proofs.Front.{settles, turn_keeps}
use Rattle.labelling.specs.declared.kinds.Place.{Place}
use Rattle.labelling.specs.Tables.{Rule, sum_of, Tables, code_of, label_cost, reached_at, turn_at, least_waiting}
use Rattle.labelling.specs.Runs.{runs_offered, Ends}
use Rattle.labelling.specs.Forks.{forks_offered, Closed}
use Rattle.labelling.specs.Turns.{place_at, settled, turned_at, turned}
use Rattle.labelling.specs.Tracing.{Traced}
use Rattle.labelling.proofs.Offering.{code_within}
use Rattle.labelling.proofs.Writing.{code_same, settled_other}
use Rattle.labelling.proofs.Choosing.{Waits, least_waits}
use Rattle.labelling.proofs.Turning.{Long, Going, taken_v, taken_set, taken_code, taken_some, going_start}
use Rattle.optimal.proofs.Bridge.{settled_by, table_of, settled_in, unsettled, settled_out, reached_out, known_at, waiting_in, settled_same}
use Rattle.optimal.proofs.Deriving.{picked_out}
use Rattle.optimal.proofs.Reaching.{Reach}
use Rattle.optimal.proofs.Leasts.{key_is, least_lowest}
use Rattle.optimal.proofs.Trying.{link_within, Forked, forked_all, reach_turn}

-- past the sets nothing is settled
pub outside : {K : Type 0} (r : Rule K) (t : Tables K) (v I : ℕ) → r.size.sets ≤ I → (table_of r t).settled v I ≡ None
outside {K} r t v I ge =
    ap (λ y. settled_by (ltb v r.size.junctions) y (turn_at t (code_of r.size v I)) (label_cost r t (code_of r.size v I))) (le-ltb I r.size.sets ge)
    ∙ neither (ltb v r.size.junctions)
  where
    neither : (b : Bool) → cond {A = Option K} b None None ≡ None
    neither true = refl
    neither false = refl

module _ {K : Type 0} (r : Rule K) (laws : Laws r.kind) (sums : (a b : K) → sum_of r a b ≡ Some (r.kind.plus a b)) (l : Layout K)
    (ends : Ends r.size.junctions l.runs) (closed : Closed r.size.sets) (law : Lawful r.kind l r.bound)
    (n : ℕ) (s : Tables K) (traced : Traced r l n s) (long : Long r s) (p : K × ℕ) (least : least_waiting r s ≡ Some p) (inv : Searched r.kind l (table_of r s)) where
  -- the label that is taken
  abbrev v : ℕ
  v = p.1 / r.size.sets

  abbrev I : ℕ
  I = p.1 % r.size.sets

  abbrev c : K
  c = (label_cost r s p.1)

  waits : Waits r s p.1 p.0
  waits = least_waits r s p least

  vn : v < r.size.junctions
  vn = taken_v r l ends closed n s traced long p least

  In : I < r.size.sets
  In = taken_set r l ends closed n s traced long p least

  at : code_of r.size v I ≡ p.1
  at = taken_code r l ends closed n s traced long p least

  pub next : Next r.kind r.bound (table_of r s) v I c
  next = record {
    waits = (
      unsettled r s v I (ap (turn_at s) at ∙ waits.fresh),
      reached_out r s v I vn In (ap (λ d. reached_at s d) at ∙ waits.reached) ∙ ap (λ d. Some (label_cost r s d)) at,
    );
    least = λ w J m h.
        let q = waiting_in r s w J m h in
        let key = key_is r s w J q.0 q.1 q.2 q.3 ∙ sums _ _ ∙ ap (λ x. Some (r.kind.plus x (r.bound w J))) q.4 in
        let is : r.kind.plus c (r.bound v I) ≡ p.0 = same_some (sym (sums c (r.bound v I)) ∙ waits.sum) in
        ap (λ x. r.kind.below (r.kind.plus m (r.bound w J)) x) is
        ∙ least_lowest r s laws p least (code_of r.size w J) (r.kind.plus m (r.bound w J)) (code_within r.size w J q.0 q.1) key;
  }

  abbrev s1 : Tables K
  s1 = settled s p.1 (n + 1)

  pub cheap : (w J : ℕ) → w < r.size.junctions → J < r.size.sets → (turn_at s1 (code_of r.size w J) ≡ 0 → ⊥) → (d : K) → Deriv r.kind l w J d → AtMost r.kind (label_cost r s1 (code_of r.size w J)) d
  cheap w J wn Jn h d x =
      ⊎_elim
      (λ e.
      let q = code_same r.size w v J I Jn In (e ∙ sym at) in
      ap (λ k. r.kind.below d (label_cost r s k)) e
      ∙ settles laws inv law v I c next d (subst (λ y. Deriv r.kind l y I d) q.0 (subst (λ y. Deriv r.kind l w y d) q.1 x)))
      (λ ne. inv.cheapest w J _ d (settled_out r s w J wn Jn (λ z. h (settled_other s p.1 (n + 1) _ ne ∙ z))) x)
      (cases_eq (code_of r.size w J) p.1)

  abbrev from : Place K
  from = place_at r s p.1

  abbrev after : Tables K
  after = forks_offered r from (runs_offered r from l.«open» 0 l.runs s1)

  forked : Forked r laws sums l ends closed (n + 1) from (taken_v r l ends closed n s traced long p least) (taken_set r l ends closed n s traced long p least) (taken_some r l ends closed n s traced long p least) s1 cheap r.size.sets after
  forked = forked_all r laws sums l ends closed (n + 1) from (taken_v r l ends closed n s traced long p least) (taken_set r l ends closed n s traced long p least) (taken_some r l ends closed n s traced long p least) s1 cheap s1 (going_start r l ends closed n s traced long p least)

  go : Going r l ends closed (n + 1) from (taken_v r l ends closed n s traced long p least) (taken_set r l ends closed n s traced long p least) (taken_some r l ends closed n s traced long p least) s1 after
  go = forked.ran.going

  others_left : (u J : ℕ) → (u ≢ v) ⊎ (J ≢ I) → (table_of r after).settled u J ≡ (table_of r s).settled u J
  others_left u J h =
      ⊎_elim
      (λ Jn.
      let d = code_of r.size u J in
      let ne : d ≢ p.1 = λ e. let q = code_same r.size u v J I Jn In (e ∙ sym at) in ⊎_elim (λ a. a q.0) (λ b. b q.1) h in
      let same = settled_other s p.1 (n + 1) d ne in
      settled_same r s after u J (go.grown.turns d ∙ same) (λ was. ap (λ x. unwrap_or x r.kind.zero) (go.grown.labels d (λ z. was (sym same ∙ z)))))
      (λ ge. outside r after u J ge ∙ sym (outside r s u J ge))
      (cases_lt J r.size.sets)

  forks_tried : (J : ℕ) (d : K) → Settled (table_of r after) v J d → bit_and I J ≡ 0 → Known r.kind (table_of r after) v (bit_or I J) (r.kind.plus c d)
  forks_tried J d h apart =
      let q = settled_in r after v J d h in
      let e = code_of r.size v J in
      let was : turn_at s1 e ≡ 0 → ⊥ = λ z. q.2 (go.grown.turns e ∙ z) in
      let some = go.traced.some v J q.0 q.1 (go.traced.reached v J q.0 q.1 q.2) in
      let cost : (label_cost r s1 e) ≡ d = sym (ap (λ x. unwrap_or x r.kind.zero) (go.grown.labels e was)) ∙ q.3 in
      let x = subst (λ m. Reach r after (code_of r.size v (bit_or I J)) (r.kind.plus c m)) cost (forked.tried J q.1 some apart was) in
      known_at r after v (bit_or I J) vn (closed I J In q.1) (r.kind.plus c d) x.0 x.1

  turn : Turn r.kind l (table_of r s) (table_of r after) v I c
  turn = record {
    settles = settled_out r after v I vn In go.is_settled ∙ ap Some go.costs;
    leaves_others = others_left;
    holds_waiting = λ u J m h.
        let q = waiting_in r s u J m h in
        let x = reach_turn r laws sums l ends closed (n + 1) from (taken_v r l ends closed n s traced long p least) (taken_set r l ends closed n s traced long p least) (taken_some r l ends closed n s traced long p least) s1 cheap s1 (code_of r.size u J) m
        (q.3, ap (r.kind.below m) q.4 ∙ laws.irrefl m) in
        known_at r after u J q.0 q.1 m x.0 x.1;
    tries_runs = λ u i k link.
        let q = picked_out l.runs l.«open» i link.run link.is_open in
        let x = forked.ran.tried i u k q.1 link in
        known_at r after u I (link_within l r.size.junctions ends i u v k link) In (r.kind.plus c k) x.0 x.1;
    tries_forks = forks_tried;
  }

  pub searched_turn : Searched r.kind l (table_of r (turned r l.«open» l.runs (n + 1) s))
  searched_turn = subst (λ o. Searched r.kind l (table_of r (turned_at r l.«open» l.runs (n + 1) s o))) (sym least) (turn_keeps laws inv law v I c next turn)
