-- No sum of a labelling is none: with the planner's sums it is what it is with exact sums. Assumes nothing.
use Rattle.std.proofs.Common.{◌≡◌, ℕ, zero, suc, ◌+◌, ◌/◌, ◌%◌, ◌^◌, ◌<◌, ◌≤◌, Bool, false, cond, eqb, List, [], ◌∷◌, length, get_or, drop, Some, None, Option, sym, refl, ap, ◌∙◌, subst, ⊎_elim, arith, unwrap_or}
use lib.Bits.{bit_and, bit_or}
use Rattle.std.proofs.lemmas.Nat.{div-add-mod'}
use Rattle.std.proofs.lemmas.Bool.{cases_Bool, cond-true, cond-false, eqb-false}
use Rattle.network.specs.declared.run.Run.{Run}
use Rattle.network.specs.Costs.{Kind, Laws}
use Rattle.network.specs.Layouts.{Layout, Priced}
use Rattle.network.specs.Bounds.{Lawful}
use Rattle.theory.specs.Search.{Searched}
use Rattle.labelling.specs.declared.kinds.Back.TheVariants.{Start, Run as ByRun, Fork}
use Rattle.labelling.specs.declared.kinds.Place.{Place}
use Rattle.labelling.specs.declared.kinds.Outcome.TheVariants.{Finished, NoneWaits}
use Rattle.labelling.specs.Tables.{Rule, exactly, sum_of, Tables, codes, code_of, label_cost, reached_at, turn_at, waits_at, key_at, with_key, least_to, least_waiting}
use Rattle.labelling.specs.Runs.{other_end, led, along_to, along, runs_offered, Ends}
use Rattle.labelling.specs.Forks.{joined, fork, forks_to, forks_offered}
use Rattle.labelling.specs.Turns.{place_at, settled, turned_at, turned}
use Rattle.labelling.specs.Starts.{goal_of, rule_of, started, blank, labelling_by, labelling, Within}
use Rattle.labelling.specs.Labelling.{ended, stopped, made, labelled}
use Rattle.labelling.proofs.Taking.{junction_within, set_within}
use Rattle.labelling.proofs.Choosing.{key_waits}
use Rattle.labelling.proofs.Turning.{Going, taken_v, taken_set, taken_some, going_start, going_along, going_fork, going_runs}
use Rattle.labelling.proofs.Ended.{run_ends, unions, Kept, kept_start, kept_turn}
use Rattle.optimal.proofs.Bridge.{table_of, settled_out}
use Rattle.optimal.proofs.Lighting.{sum_fits, run_light, offered_same, settled_light, reached_light}
use Rattle.optimal.proofs.Searching.{cheap, searched_turn}
use Rattle.optimal.proofs.Beginning.{searched_start}

-- ---- two foldings that agree where the second keeps a property
module _ {K : Type 0} (r e : Rule K) (from : Place K) (P : Tables K → Type 0) where
  runs_same : (marks : List Bool) (runs : List (Run K)) → ((i : ℕ) (x : Run K) (t : Tables K) → i < length runs → ((d : Run K) → get_or runs i d ≡ x) → P t → P (along e from i (get_or marks i false) x t) × (along r from i (get_or marks i false) x t ≡ along e from i (get_or marks i false) x t))
      → (i : ℕ) (xs : List (Run K)) → i + length xs ≡ length runs → ((j : ℕ) (d : Run K) → j < length xs → get_or runs (i + j) d ≡ get_or xs j d) → (t : Tables K) → P t
      → runs_offered r from marks i xs t ≡ runs_offered e from marks i xs t
  runs_same marks runs step i [] sum at t h = refl
  runs_same marks runs step i (x ∷ xs) sum at t h =
      let q = step i x t (omega arith) (λ d. let q : i ≡ i + 0 = omega arith in ap (λ n. get_or runs n d) q ∙ at 0 d (omega arith)) h in
      ap (runs_offered r from marks (i + 1) xs) q.1
      ∙ runs_same marks runs step (i + 1) xs (omega arith) (λ j d lt. let q : i + 1 + j ≡ i + suc j = omega arith in ap (λ n. get_or runs n d) q ∙ at (suc j) d (omega arith)) _ q.0

  -- with what is kept on the way
  forks_same : (n : ℕ) → ((j : ℕ) (t : Tables K) → j < n → P t → P (fork e from j t) × (fork r from j t ≡ fork e from j t)) → (t : Tables K) → P t → P (forks_to e from n t) × (forks_to r from n t ≡ forks_to e from n t)
  forks_same zero step t h = (h, refl)
  forks_same (suc n) step t h =
      let q = forks_same n (λ j s lt. step j s (omega arith)) t h in
      let p = step n (forks_to e from n t) (omega arith) q.0 in
      (p.0, ap (fork r from n) q.1 ∙ p.1)

least_same : {K : Type 0} (r e : Rule K) (t : Tables K) → r.kind.below ≡ e.kind.below → (n : ℕ) → ((c : ℕ) → c < n → key_at r t c ≡ key_at e t c) → least_to r t n ≡ least_to e t n
least_same r e t b zero h = refl
least_same r e t b (suc n) h =
    ap (λ f. with_key f (least_to r t n) (key_at r t n) n) b
    ∙ ap (λ x. with_key e.kind.below x (key_at r t n) n) (least_same r e t b n (λ c lt. h c (omega arith)))
    ∙ ap (λ x. with_key e.kind.below (least_to e t n) x n) (h n (omega arith))

module _ {K : Type 0} (kind : Kind K) (laws : Laws kind) (bound : ℕ → ℕ → K) (l : Layout K) (few : length l.runs ≤ 4096) (priced : Priced kind l.runs) (law : Lawful kind l bound)
    (ends : Ends l.junctions l.runs) (inside : Within l.junctions l.outlets) (some : 0 < length l.outlets)
    (t0 : Tables K) (in-labels : codes (rule_of kind bound l).size ≤ length t0.labels) (in_ways : codes (rule_of kind bound l).size ≤ length t0.ways) where
  abbrev r : Rule K
  r = rule_of kind bound l

  abbrev e : Rule K
  e = exactly r

  abbrev Holds : ℕ → Tables K → Type 0
  Holds n s = Kept e l refl ends inside some t0 in-labels in_ways n s

  -- ---- the first offers
  started_same : (i : ℕ) (os : List ℕ) (t : Tables K) → started r i os t ≡ started e i os t
  started_same i [] t = refl
  started_same i (o ∷ os) t =
      let z = laws.bulk_zero in
      let b = law.light o (2 ^ i) in
      ap (started r (i + 1) os) (offered_same kind laws bound l few priced t (record { v = o; set = 2 ^ i; cost = kind.zero }) Start (omega arith))
      ∙ started_same (i + 1) os _

  -- ---- one turn
  module _ (n : ℕ) (s : Tables K) (kept : Holds n s) (inv : Searched kind l (table_of e s)) where
    abbrev ends' : Ends e.size.junctions l.runs
    ends' = run_ends e l refl ends inside some

    key_same : (c : ℕ) → key_at r s c ≡ key_at e s c
    key_same c =
        ⊎_elim
        (λ w.
        let m = (label_cost e s c) in
        let v = c / e.size.sets in
        let I = c % e.size.sets in
        let q = key_waits e s c (kind.plus m (bound v I)) (cond-true (waits_at e s c) _ _ w) in
        let vn = junction_within e.size c q.within in
        let In = set_within e.size c q.within in
        let at : code_of e.size v I ≡ c = div-add-mod' c e.size.sets in
        let light = reached_light kind laws bound l few priced n s kept.traced (λ w J wn Jn h d x. inv.cheapest w J _ d (settled_out e s w J wn Jn h) x) v I vn In (ap (λ d. reached_at s d) at ∙ q.reached) in
        let is = ap (λ d. kind.bulk (label_cost e s d)) at in
        let b = law.light v I in
        ap (λ x. cond (waits_at e s c) x None) (sum_fits kind laws bound l few priced m (bound v I) (omega arith)))
        (λ w. cond-false (waits_at r s c) _ _ w ∙ sym (cond-false (waits_at e s c) _ _ w))
        (cases_Bool (waits_at e s c))

    pub waiting_same : least_waiting r s ≡ least_waiting e s
    waiting_same = least_same r e s refl (codes e.size) (λ c lt. key_same c)

    module _ (p : K × ℕ) (least : least_waiting e s ≡ Some p) where
      abbrev from : Place K
      from = place_at e s p.1

      abbrev s1 : Tables K
      s1 = settled s p.1 (n + 1)

      abbrev Go : Tables K → Type 0
      Go t = Going e l ends' (unions e l refl ends inside some) (n + 1) from (taken_v e l ends' (unions e l refl ends inside some) n s kept.traced kept.long p least) (taken_set e l ends' (unions e l refl ends inside some) n s kept.traced kept.long p least) (taken_some e l ends' (unions e l refl ends inside some) n s kept.traced kept.long p least) s1 t

      start : Go s1
      start = going_start e l ends' (unions e l refl ends inside some) n s kept.traced kept.long p least

      -- what is settled in the course of the turn is light
      light_at : (t : Tables K) → Go t → (w J : ℕ) → w < l.junctions → J < e.size.sets → (turn_at t (code_of e.size w J) ≡ 0 → ⊥) → kind.bulk (label_cost e t (code_of e.size w J)) ≤ 4096000000
      light_at t go w J wn Jn h =
          let c = code_of e.size w J in
          let was : turn_at s1 c ≡ 0 → ⊥ = λ z. h (go.grown.turns c ∙ z) in
          let q = settled_light kind laws bound l few priced (n + 1) s1 start.traced (cheap e laws (λ a b. refl) l ends' (unions e l refl ends inside some) law n s kept.traced kept.long p least inv) w J wn Jn was in
          subst (λ (y : Option K). kind.bulk (unwrap_or y kind.zero) ≤ 4096000000) (sym (go.grown.labels c was)) q

      from_light : (t : Tables K) → Go t → kind.bulk from.cost ≤ 4096000000
      from_light t go =
          let q = light_at t go from.v from.set (taken_v e l ends' (unions e l refl ends inside some) n s kept.traced kept.long p least) (taken_set e l ends' (unions e l refl ends inside some) n s kept.traced kept.long p least) go.is_settled in
          subst (λ x. kind.bulk x ≤ 4096000000) go.costs q

      along_same : (i : ℕ) (x : Run K) (t : Tables K) → i < length l.runs → ((d : Run K) → get_or l.runs i d ≡ x) → Go t → along r from i (get_or l.«open» i false) x t ≡ along e from i (get_or l.«open» i false) x t
      along_same i x t lt is_x go = ap (λ y. cond (get_or l.«open» i false) y t) (to (other_end x from.v))
        where
          to : (o : Option ℕ) → along_to r t from i x o ≡ along_to e t from i x o
          to None = refl
          to (Some w) =
              let a = from_light t go in
              let b = run_light kind laws bound l few priced i x lt is_x in
              let k = kind.plus from.cost x.cost in
              let sum = laws.bulk_plus from.cost x.cost in
              let h = law.light w from.set in
              ap (led r t from i w) (sum_fits kind laws bound l few priced from.cost x.cost (omega arith))
              ∙ offered_same kind laws bound l few priced t (record { v = w; set = from.set; cost = k }) (ByRun i) (omega arith)

      fork_same : (j : ℕ) (t : Tables K) → j < e.size.sets → Go t → fork r from j t ≡ fork e from j t
      fork_same j t jn go = ap (λ y. cond (eqb j 0) t (cond (eqb (bit_and from.set j) 0) y t)) inner
        where
          inner : cond (eqb (turn_at t (code_of e.size from.v j)) 0) t (joined r t from j (sum_of r from.cost (label_cost e t (code_of e.size from.v j))))
              ≡ cond (eqb (turn_at t (code_of e.size from.v j)) 0) t (joined e t from j (sum_of e from.cost (label_cost e t (code_of e.size from.v j))))
          inner =
              ⊎_elim
              (λ z. cond-true _ _ _ z ∙ sym (cond-true _ _ _ z))
              (λ z.
              let m = (label_cost e t (code_of e.size from.v j)) in
              let a = from_light t go in
              let b = light_at t go from.v j (taken_v e l ends' (unions e l refl ends inside some) n s kept.traced kept.long p least) jn (eqb-false _ 0 z) in
              let k = kind.plus from.cost m in
              let sum = laws.bulk_plus from.cost m in
              let h = law.light from.v (bit_or from.set j) in
              ap (λ y. cond (eqb (turn_at t (code_of e.size from.v j)) 0) t y)
              (ap (joined r t from j) (sum_fits kind laws bound l few priced from.cost m (omega arith))
              ∙ offered_same kind laws bound l few priced t (record { v = from.v; set = bit_or from.set j; cost = k }) (Fork j) (omega arith)))
              (cases_Bool (eqb (turn_at t (code_of e.size from.v j)) 0))

      pub turned_same : turned r l.«open» l.runs (n + 1) s ≡ turned e l.«open» l.runs (n + 1) s
      turned_same =
          ap (turned_at r l.«open» l.runs (n + 1) s) (waiting_same ∙ least)
          ∙ ap (forks_offered r from)
          (runs_same r e from Go l.«open» l.runs
          (λ i x t lt is_x go. (going_along e l ends' (unions e l refl ends inside some) (n + 1) from _ _ _ s1 i x t lt is_x go, along_same i x t lt is_x go))
          0 l.runs (omega arith) (λ j d lt. let q : 0 + j ≡ j = omega arith in ap (λ n. get_or l.runs n d) q) s1 start)
          ∙ (forks_same r e from Go e.size.sets
          (λ j t lt go. (going_fork e l ends' (unions e l refl ends inside some) (n + 1) from _ _ _ s1 j t lt go, fork_same j t lt go))
          (runs_offered e from l.«open» 0 l.runs s1) (going_runs e l ends' (unions e l refl ends inside some) (n + 1) from _ _ _ s1 s1 start)).1
          ∙ ap (turned_at e l.«open» l.runs (n + 1) s) (sym least)

  -- ---- all turns
  labelled_same : (b n : ℕ) (s : Tables K) → Holds n s → Searched kind l (table_of e s) → labelled r l.«open» l.runs (goal_of l) b n s ≡ labelled e l.«open» l.runs (goal_of l) b n s
  labelled_same zero n s kept inv = ap (λ o. ended (stopped o) n s) (waiting_same n s kept inv)
  labelled_same (suc b) n s kept inv =
      ap (λ o. made o (ended NoneWaits n s) (λ c. cond (eqb c (goal_of l)) (ended Finished (n + 1) (settled s c (n + 1))) (labelled r l.«open» l.runs (goal_of l) b (n + 1) (turned r l.«open» l.runs (n + 1) s)))) (waiting_same n s kept inv)
      ∙ at (labelled_same b (n + 1) (turned e l.«open» l.runs (n + 1) s)) (least_waiting e s) refl
    where
      at : (Holds (n + 1) (turned e l.«open» l.runs (n + 1) s) → Searched kind l (table_of e (turned e l.«open» l.runs (n + 1) s))
          → labelled r l.«open» l.runs (goal_of l) b (n + 1) (turned e l.«open» l.runs (n + 1) s) ≡ labelled e l.«open» l.runs (goal_of l) b (n + 1) (turned e l.«open» l.runs (n + 1) s))
          → (o : Option (K × ℕ)) → least_waiting e s ≡ o
          → made o (ended NoneWaits n s) (λ c. cond (eqb c (goal_of l)) (ended Finished (n + 1) (settled s c (n + 1))) (labelled r l.«open» l.runs (goal_of l) b (n + 1) (turned r l.«open» l.runs (n + 1) s)))
          ≡ made o (ended NoneWaits n s) (λ c. cond (eqb c (goal_of l)) (ended Finished (n + 1) (settled s c (n + 1))) (labelled e l.«open» l.runs (goal_of l) b (n + 1) (turned e l.«open» l.runs (n + 1) s)))
      at on None w = refl
      at on (Some p) w =
          ⊎_elim
          (λ y. cond-true (eqb p.1 (goal_of l)) _ _ y ∙ sym (cond-true (eqb p.1 (goal_of l)) _ _ y))
          (λ y. ap (λ z. cond (eqb p.1 (goal_of l)) (ended Finished (n + 1) (settled s p.1 (n + 1))) z)
          (ap (labelled r l.«open» l.runs (goal_of l) b (n + 1)) (turned_same n s kept inv p w)
          ∙ on (kept_turn e l refl ends inside some t0 in-labels in_ways n s p kept w (eqb-false p.1 (goal_of l) y))
          (searched_turn e laws (λ a b. refl) l (run_ends e l refl ends inside some) (unions e l refl ends inside some) law n s kept.traced kept.long p w inv)))
          (cases_Bool (eqb p.1 (goal_of l)))

  pub exact : (limit : ℕ) → labelling kind bound l limit t0 ≡ labelling_by e l limit t0
  exact limit =
      ap (labelled r l.«open» l.runs (goal_of l) limit 0) (started_same 0 (drop 1 l.outlets) (blank r t0))
      ∙ labelled_same limit 0 (started e 0 (drop 1 l.outlets) (blank e t0)) (kept_start e l refl ends inside some t0 in-labels in_ways) (searched_start e laws (λ a b. refl) l refl ends inside some t0 in-labels in_ways)
