-- What a labelling with exact sums has found at its end. Assumes nothing.
use Rattle.std.proofs.Common.{◌≡◌, ℕ, zero as first, suc, ◌<◌, ◌≤◌, ◌⊎◌, List, [], ◌∷◌, length, get_or, Some, sym, refl, ap, ◌∙◌, subst, inl, inr, arith}
use Rattle.network.specs.Costs.{Laws, AtMost}
use Rattle.network.specs.Layouts.{Layout, Member, here, there, OpenSet, Joins, Outlet, cost_of}
use Rattle.network.specs.Bounds.{root, others, all_others, Lawful}
use Rattle.queue.proofs.Scan.{none≢some}
use Rattle.theory.specs.Derivations.{InSet, Connects, Deriv, uses, Same, Cheapest, LeastCost}
use Rattle.theory.specs.DreyfusWagner.{DreyfusWagner}
use Rattle.theory.proofs.Masks.{full_has, full_small}
use Rattle.theory.proofs.Drawing.{drawn_joins, drawn_cost}
use Rattle.theory.proofs.Optimal.{cheapest_least, floor, hopeless}
use Rattle.theory.proofs.DreyfusWagner.{is_dreyfus_wagner}
use Rattle.labelling.specs.declared.kinds.Size.{Size}
use Rattle.labelling.specs.declared.kinds.Outcome.TheVariants.{Finished, NoneWaits, Stopped}
use Rattle.labelling.specs.Tables.{Rule, sum_of, Tables, code_of, label_cost, turn_at}
use Rattle.labelling.specs.Starts.{size_of, goal_of, Within}
use Rattle.labelling.specs.Labelling.{Labelled}
use Rattle.labelling.proofs.Offering.{code_within}
use Rattle.labelling.proofs.Choosing.{none_waits}
use Rattle.labelling.proofs.Ended.{within_at, EndedAs, Ended}
use Rattle.optimal.specs.Drawing.{drawn, Shows}
use Rattle.optimal.proofs.Bridge.{unsettled, waiting_in}
use Rattle.optimal.proofs.Deriving.{marked_shows, settled_found, settled_deriv}
use Rattle.optimal.proofs.Leasts.{key_is, least_lowest}
use Rattle.optimal.proofs.Beginning.{Right}

-- ---- all outlets, and the root with all others
member_at : (xs : List ℕ) (i : ℕ) → i < length xs → Member (get_or xs i 0) xs
member_at [] i h = absurd (omega arith)
member_at (x ∷ xs) first h = here
member_at (x ∷ xs) (suc i) h = there (member_at xs i (omega arith))

member_place : {v : ℕ} {xs : List ℕ} → Member v xs → (i : ℕ) × (i < length xs) × (v ≡ get_or xs i 0)
member_place here = (0, omega arith, refl)
member_place (there m) = let q = member_place m in (suc q.0, omega arith, q.2)

module _ {K : Type 0} (l : Layout K) (some : 0 < length l.outlets) (S : List ℕ) where
  pub outlets_connect : Joins l S (Outlet l) → Connects l S (root l) (all_others l)
  outlets_connect joins u w p q = joins u w (out p) (out q)
    where
      out : {u : ℕ} → (u ≡ root l) ⊎ InSet l (all_others l) u → Outlet l u
      out (inl e) = subst (λ x. Member x l.outlets) (sym e) (member_at l.outlets 0 some)
      out (inr h) = let lt = h.within in subst (λ x. Member x l.outlets) (sym h.is) (member_at l.outlets (suc h.place) (omega arith))

  pub connect_outlets : Connects l S (root l) (all_others l) → Joins l S (Outlet l)
  connect_outlets joins u w p q = joins u w (back p) (back q)
    where
      at : {u : ℕ} (i : ℕ) → i < length l.outlets → u ≡ get_or l.outlets i 0 → (u ≡ root l) ⊎ InSet l (all_others l) u
      at first lt e = inl e
      at (suc i) lt e = inr (record { place = i; within = omega arith; has = full_has (others l) i (omega arith); is = e })

      back : {u : ℕ} → Outlet l u → (u ≡ root l) ⊎ InSet l (all_others l) u
      back m = let h = member_place m in at h.0 h.1 h.2

module _ {K : Type 0} (r : Rule K) (laws : Laws r.kind) (sums : (a b : K) → sum_of r a b ≡ Some (r.kind.plus a b)) (l : Layout K)
    (is : r.size ≡ size_of l) (inside : Within l.junctions l.outlets) (several : 2 ≤ length l.outlets) (limit : ℕ) (t : Tables K) (x : Labelled K)
    (end : Ended r l limit t x) (right : Right r l x) where
  abbrev left : Tables K
  left = x.left

  pub cheapest : (v I : ℕ) → v < r.size.junctions → I < r.size.sets → (turn_at left (code_of r.size v I) ≡ 0 → ⊥) → Cheapest r.kind l v I (label_cost r left (code_of r.size v I))
  cheapest v I vn In was = record { derived = settled_deriv r laws l x.ending.turns left end.traced v I vn In was; least = right.cheap v I vn In was }

  pub least_cost : (v I : ℕ) → v < r.size.junctions → I < r.size.sets → (turn_at left (code_of r.size v I) ≡ 0 → ⊥)
      → DreyfusWagner r.kind l v I (label_cost r left (code_of r.size v I)) × LeastCost r.kind l v I (label_cost r left (code_of r.size v I))
  least_cost v I vn In was = let h = cheapest v I vn In was in (is_dreyfus_wagner laws l v I _ h, cheapest_least laws h)

  -- ---- the goal
  root_within : root l < r.size.junctions
  root_within = subst (λ (s : Size). root l < s.junctions) (sym is) (within_at l.junctions l.outlets inside 0 (omega arith))

  all_within : all_others l < r.size.sets
  all_within = subst (λ (s : Size). all_others l < s.sets) (sym is) (full_small (others l))

  at_goal : goal_of l ≡ code_of r.size (root l) (all_others l)
  at_goal = ap (λ s. code_of s (root l) (all_others l)) (sym is)

  abbrev c : K
  c = (label_cost r left (code_of r.size (root l) (all_others l)))

  module _ (done : x.ending.outcome ≡ Finished) where
    how : (turn_at left (goal_of l) ≡ x.ending.turns) × (0 < x.ending.turns)
    how = subst (EndedAs r (goal_of l) limit x.ending.turns left) done end.how

    was : turn_at left (code_of r.size (root l) (all_others l)) ≡ 0 → ⊥
    was z = let h = how in let e = ap (turn_at left) at_goal in omega arith

    pub none_cheaper : (S : List ℕ) → OpenSet l S → Joins l S (Outlet l) → AtMost r.kind c (cost_of r.kind l S)
    none_cheaper S o joins = (cheapest_least laws (cheapest (root l) (all_others l) root_within all_within was)).least S o (outlets_connect l (omega arith) S joins)

    -- a derivation, with the runs that are drawn along the ways back
    pub goal_drawn : (d : Deriv r.kind l (root l) (all_others l) c)
        × ((n : ℕ) (row : List ℕ) → x.ending.turns ≤ n → Shows (uses d) row (drawn r.size l.runs left.ways n (root l) (all_others l) row))
    goal_drawn =
        let q = settled_found r laws l x.ending.turns left end.traced (root l) (all_others l) root_within all_within was in (
          q.0,
          λ n row le.
              let e = ap (turn_at left) at_goal in
              let h = how in
              subst (Shows (uses q.0) row) (sym (q.1 n row (omega arith))) (marked_shows (uses q.0) row),
        )

    pub goal_joins : (d : Deriv r.kind l (root l) (all_others l) c) (S : List ℕ) → OpenSet l S → Same S (uses d) → Joins l S (Outlet l) × (cost_of r.kind l S ≡ c)
    goal_joins d S o same =
        let joins = connect_outlets l (omega arith) S (drawn_joins d S same) in
        (joins, laws.equal _ _ (none_cheaper S o joins) (drawn_cost laws d S o same))

  -- ---- the goal is not settled
  module _ (law : Lawful r.kind l r.bound) where
    pub stopped_floor : (k : K) → x.ending.outcome ≡ Stopped k → (S : List ℕ) → OpenSet l S → Joins l S (Outlet l) → AtMost r.kind k (cost_of r.kind l S)
    stopped_floor k e S o joins =
        let h = subst (EndedAs r (goal_of l) limit x.ending.turns left) e end.how in
        let p : K × ℕ = (k, h.1.0) in
        floor laws (omega arith) (right.searched (λ f. let z : ◌≡◌ {A = ℕ} 0 1 = cc in omega arith)) law (unsettled r left (root l) (all_others l) (ap (turn_at left) (sym at_goal) ∙ h.2)) k
        (λ v I m w.
        let q = waiting_in r left v I m w in
        let key = key_is r left v I q.0 q.1 q.2 q.3 ∙ sums _ _ ∙ ap (λ y. Some (r.kind.plus y (r.bound v I))) q.4 in
        least_lowest r left laws p h.1.1 (code_of r.size v I) (r.kind.plus m (r.bound v I)) (code_within r.size v I q.0 q.1) key)
        S joins

    pub none_hopeless : x.ending.outcome ≡ NoneWaits → (S : List ℕ) → OpenSet l S → Joins l S (Outlet l) → ⊥
    none_hopeless e S o joins =
        let h = subst (EndedAs r (goal_of l) limit x.ending.turns left) e end.how in
        hopeless laws (omega arith) (right.searched (λ f. let z : ◌≡◌ {A = ℕ} 0 1 = cc in omega arith))
        (λ v I m w.
        let q = waiting_in r left v I m w in
        let key = key_is r left v I q.0 q.1 q.2 q.3 ∙ sums _ _ in
        none≢some (sym (none_waits r left h.0 (code_of r.size v I) (code_within r.size v I q.0 q.1)) ∙ key))
        (unsettled r left (root l) (all_others l) (ap (turn_at left) (sym at_goal) ∙ h.1)) S joins
