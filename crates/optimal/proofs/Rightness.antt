-- The theorems, from what holds with exact sums. Assumes nothing.
use Rattle.std.proofs.Common.{◌≡◌, ℕ, ◌-◌, ◌*◌, ◌<◌, ◌≤◌, List, length, Some, sym, refl, ap, ◌∙◌, subst, arith}
use Rattle.network.specs.Costs.{Kind, Laws, AtMost}
use Rattle.network.specs.Layouts.{Layout, OpenSet, Joins, Outlet, cost_of}
use Rattle.network.specs.Bounds.{root, sets, all_others}
use Rattle.theory.specs.Derivations.{LeastCost}
use Rattle.theory.specs.DreyfusWagner.{DreyfusWagner}
use Rattle.theory.proofs.Drawing.{drawing, drawing_open, drawing_same}
use Rattle.labelling.specs.declared.kinds.Outcome.{Outcome}
use Rattle.labelling.specs.declared.kinds.Outcome.TheVariants.{Finished, NoneWaits, Stopped}
use Rattle.labelling.specs.Tables.{Rule, exactly, Tables, codes, code_of, turn_at, least_waiting}
use Rattle.labelling.specs.Starts.{size_of, goal_of, rule_of, labelling_by, labelling}
use Rattle.labelling.specs.Labelling.{Labelled}
use Rattle.labelling.proofs.Ended.{EndedAs, Ended, labelling_ended}
use Rattle.optimal.specs.Counting.{settled_to, JustOne}
use Rattle.optimal.specs.Theorems.{Given, cost_at, Settled, Plan}
use Rattle.optimal.proofs.Beginning.{Right, right_end}
use Rattle.optimal.proofs.Ends.{least_cost, none_cheaper, goal_drawn, goal_joins, stopped_floor, none_hopeless}
use Rattle.optimal.proofs.Exactness.{exact}
use Rattle.optimal.proofs.Counting.{counted, each_turn, never_stopped}

module _ {K : Type 0} (kind : Kind K) (laws : Laws kind) (l : Layout K) (bound : ℕ → ℕ → K) (t : Tables K) (given : Given kind l bound t) (limit : ℕ) where
  abbrev r : Rule K
  r = rule_of kind bound l

  abbrev e : Rule K
  e = exactly r

  some : 0 < length l.outlets
  some = let h = given.formed.several in omega arith

  -- the labelling with exact sums
  abbrev x : Labelled K
  x = labelling_by e l limit t

  pub is_exact : labelling kind bound l limit t ≡ labelling_by e l limit t
  is_exact = exact kind laws bound l given.formed.few given.priced given.lawful given.formed.ends given.formed.inside some t given.labels given.ways limit

  end : Ended e l limit t x
  end = labelling_ended e l refl given.formed.ends given.formed.inside some t given.labels given.ways limit

  -- with the planner's sums too
  end_by : Ended r l limit t (labelling kind bound l limit t)
  end_by = labelling_ended r l refl given.formed.ends given.formed.inside some t given.labels given.ways limit

  right : Right e l x
  right = right_end e laws (λ a b. refl) l refl given.formed.ends given.formed.inside some t given.labels given.ways given.lawful limit

  pub settles_right : (v I : ℕ) → Settled l (labelling kind bound l limit t).left v I
      → DreyfusWagner kind l v I (cost_at kind bound l (labelling kind bound l limit t).left v I) × LeastCost kind l v I (cost_at kind bound l (labelling kind bound l limit t).left v I)
  settles_right v I =
      subst (λ (y : Labelled K). Settled l y.left v I → DreyfusWagner kind l v I (cost_at kind bound l y.left v I) × LeastCost kind l v I (cost_at kind bound l y.left v I)) (sym is_exact)
      (λ s. least_cost e laws (λ a b. refl) l refl given.formed.inside given.formed.several limit t x end right v I s.junction s.outlets s.turned)

  plan : x.ending.outcome ≡ Finished → Plan kind l x (cost_at kind bound l x.left (root l) (all_others l))
  plan done =
      let q = goal_drawn e laws (λ a b. refl) l refl given.formed.inside given.formed.several limit t x end right done in
      record {
        least = none_cheaper e laws (λ a b. refl) l refl given.formed.inside given.formed.several limit t x end right done;
        derived = q.0;
        shown = q.1;
        joins = goal_joins e laws (λ a b. refl) l refl given.formed.inside given.formed.several limit t x end right done q.0;
      }

  pub finishes_best : (labelling kind bound l limit t).ending.outcome ≡ Finished
      → (turn_at (labelling kind bound l limit t).left (code_of (size_of l) (root l) (all_others l)) ≡ (labelling kind bound l limit t).ending.turns)
      × Plan kind l (labelling kind bound l limit t) (cost_at kind bound l (labelling kind bound l limit t).left (root l) (all_others l))
  finishes_best done = (
    (subst (EndedAs r (goal_of l) limit (labelling kind bound l limit t).ending.turns (labelling kind bound l limit t).left) done end_by.how).0,
    subst (λ (y : Labelled K). y.ending.outcome ≡ Finished → Plan kind l y (cost_at kind bound l y.left (root l) (all_others l))) (sym is_exact) plan done,
  )

  pub stops_below : (k : K) → (labelling kind bound l limit t).ending.outcome ≡ Stopped k
      → ((labelling kind bound l limit t).ending.turns ≡ limit)
      × ((c : ℕ) × (least_waiting (rule_of kind bound l) (labelling kind bound l limit t).left ≡ Some (k, c)))
      × ((S : List ℕ) → OpenSet l S → Joins l S (Outlet l) → AtMost kind k (cost_of kind l S))
  stops_below k at =
      let h = subst (EndedAs r (goal_of l) limit (labelling kind bound l limit t).ending.turns (labelling kind bound l limit t).left) at end_by.how in (
        h.0,
        h.1,
        stopped_floor e laws (λ a b. refl) l refl given.formed.inside given.formed.several limit t x end right given.lawful k (ap (λ (y : Labelled K). y.ending.outcome) (sym is_exact) ∙ at),
      )

  pub none_joins : (labelling kind bound l limit t).ending.outcome ≡ NoneWaits → (S : List ℕ) → OpenSet l S → Joins l S (Outlet l) → ⊥
  none_joins at =
      none_hopeless e laws (λ a b. refl) l refl given.formed.inside given.formed.several limit t x end right given.lawful (ap (λ (y : Labelled K). y.ending.outcome) (sym is_exact) ∙ at)

  pub counts : (settled_to (labelling kind bound l limit t).left (codes (size_of l)) ≡ (labelling kind bound l limit t).ending.turns) × ((labelling kind bound l limit t).ending.turns ≤ limit)
      × ((i : ℕ) → 0 < i → i ≤ (labelling kind bound l limit t).ending.turns → JustOne (labelling kind bound l limit t).left (codes (size_of l)) i)
  counts = (
    counted r l refl given.formed.ends given.formed.inside some t given.labels given.ways limit,
    end_by.within,
    each_turn r l refl given.formed.ends given.formed.inside some t given.labels given.ways limit,
  )

  module _ (enough : l.junctions * (sets l - 1) ≤ limit) where
    never : (k : K) → (labelling kind bound l limit t).ending.outcome ≡ Stopped k → ⊥
    never = never_stopped r l refl given.formed.ends given.formed.inside some t given.labels given.ways limit enough end_by

    by_outcome : (o : Outcome K) → (labelling kind bound l limit t).ending.outcome ≡ o → ((S : List ℕ) → OpenSet l S → Joins l S (Outlet l) → ⊥) → (labelling kind bound l limit t).ending.outcome ≡ NoneWaits
    by_outcome Finished at hopeless =
        let q = (finishes_best at).1 in
        let S = drawing q.derived in
        absurd (hopeless S (drawing_open q.derived) (q.joins S (drawing_open q.derived) (drawing_same q.derived)).0)
    by_outcome NoneWaits at hopeless = at
    by_outcome (Stopped k) at hopeless = absurd (never k at)

    pub suffices : ((k : K) → (labelling kind bound l limit t).ending.outcome ≡ Stopped k → ⊥)
        × (((S : List ℕ) → OpenSet l S → Joins l S (Outlet l) → ⊥) → (labelling kind bound l limit t).ending.outcome ≡ NoneWaits)
    suffices = (never, by_outcome (labelling kind bound l limit t).ending.outcome refl)
