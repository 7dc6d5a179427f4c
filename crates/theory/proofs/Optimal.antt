-- What a search that is done, or not yet done, has found. Assumes nothing.
use Rattle.std.proofs.Common.{◌≡◌, ℕ, zero as first, suc, ◌<◌, false, List, [], ◌∷◌, length, get_or, None, sym, refl, ap, ◌∙◌, subst, arith}
use Rattle.network.specs.Costs.{Kind, Laws}
use Rattle.network.specs.Layouts.{Layout, Member, here, there, OpenSet, Joins, Outlet, Path, cost_of}
use Rattle.network.specs.Bounds.{root, others, placed, all_others, Lawful}
use Rattle.theory.specs.Derivations.{Connects, Deriv, uses, Same, Cheapest, LeastCost}
use Rattle.theory.specs.Search.{Table, Settled, Waiting, Searched}
use Rattle.network.proofs.Order.{le_trans, le_eq, unit_r}
use Rattle.theory.proofs.Masks.{full_has, full_small, full_some}
use Rattle.theory.proofs.Paths.{on, back, same}
use Rattle.theory.proofs.Decompose.{from_paths, decomposes}
use Rattle.theory.proofs.Drawing.{deriv_some, deriv_below, drawing, drawing_open, drawing_same, drawn_path, drawn_joins, drawn_cost}
use Rattle.theory.proofs.Bounding.{no_bound}
use Rattle.theory.proofs.Front.{front}

-- ---- outlets by their places
member_at : (xs : List ℕ) (i : ℕ) → i < length xs → Member (get_or xs i 0) xs
member_at [] i h = absurd (omega arith)
member_at (x ∷ xs) first h = here
member_at (x ∷ xs) (suc i) h = there (member_at xs i (omega arith))

member_place : {v : ℕ} {xs : List ℕ} → Member v xs → (i : ℕ) × (i < length xs) × (v ≡ get_or xs i 0)
member_place here = (0, omega arith, refl)
member_place (there m) = let q = member_place m in (suc q.0, omega arith, q.2)

module _ {K : Type 0} {l : Layout K} {S : List ℕ} where
  from_root : 0 < others l → Joins l S (Outlet l) → (i : ℕ) → i < others l → Path l S (root l) (placed l i)
  from_root some joins i b = joins (root l) (placed l i) (member_at l.outlets 0 (omega arith)) (member_at l.outlets (suc i) (omega arith))

  all_joined : ((i : ℕ) → i < others l → Path l S (root l) (placed l i)) → Joins l S (Outlet l)
  all_joined f u w p q = on (back (reach p)) (reach q)
    where
      at : {u : ℕ} (i : ℕ) → i < length l.outlets → u ≡ get_or l.outlets i 0 → Path l S (root l) u
      at first b e = same (sym e)
      at (suc i) b e = subst (Path l S (root l)) (sym e) (f i (omega arith))

      reach : {u : ℕ} → Member u l.outlets → Path l S (root l) u
      reach m = let q = member_place m in at q.0 q.1 q.2

module _ {K : Type 0} {kind : Kind K} (laws : Laws kind) {l : Layout K} where
  open kind use {zero, plus, below}

  -- the least cost of a derivation is the least cost of joining
  pub cheapest_least : {v I : ℕ} {c : K} → Cheapest kind l v I c → LeastCost kind l v I c
  cheapest_least {v} {I} {c} h =
      let d = h.derived in
      let S : List ℕ = drawing d in
      let joins = drawn_joins d S (drawing_same d) in
      record {
        set = S;
        is_open = drawing_open d;
        joins = joins;
        costs = laws.equal _ _ (least S (drawing_open d) joins) (drawn_cost laws d S (drawing_open d) (drawing_same d));
        least = least;
      }
    where
      least : (S : List ℕ) → OpenSet l S → Connects l S v I → below (cost_of kind l S) c ≡ false
      least S o joins =
          let q = decomposes laws l S v I (deriv_some h.derived) (deriv_below h.derived) joins in
          le_trans laws _ _ _ (h.least q.0 q.1) q.2

  pub settled_cheapest : {t : Table K} → Searched kind l t → (v I : ℕ) (c : K) → Settled t v I c → Deriv kind l v I c → Cheapest kind l v I c
  settled_cheapest inv v I c s d = record { derived = d; least = λ m x. inv.cheapest v I c m s x }

  module _ (some : 0 < others l) {t : Table K} (inv : Searched kind l t) where
    derived : (S : List ℕ) → Joins l S (Outlet l) → (c : K) × Deriv kind l (root l) (all_others l) c × (below (cost_of kind l S) c ≡ false)
    derived S joins =
        from_paths laws l S (root l) (all_others l) (full_some (others l) some) (full_small (others l)) (λ i b h. from_root some joins i b)

    pub none_cheaper : (c : K) → Settled t (root l) (all_others l) c → (S : List ℕ) → Joins l S (Outlet l) → below (cost_of kind l S) c ≡ false
    none_cheaper c settled S joins = let q = derived S joins in le_trans laws _ _ _ (inv.cheapest _ _ c q.0 settled q.1) q.2

    pub goal_joins : {c : K} (d : Deriv kind l (root l) (all_others l) c) (S : List ℕ) → Same S (uses d) → Joins l S (Outlet l)
    goal_joins d S s = all_joined (λ i b. drawn_path d S s i (full_has (others l) i b))

    pub goal_costs : (c : K) → Settled t (root l) (all_others l) c → (d : Deriv kind l (root l) (all_others l) c) (S : List ℕ) → OpenSet l S → Same S (uses d)
        → cost_of kind l S ≡ c
    goal_costs c settled d S o s = laws.equal _ _ (none_cheaper c settled S (goal_joins d S s)) (drawn_cost laws d S o s)

    pub floor : {bound : ℕ → ℕ → K} → Lawful kind l bound → t.settled (root l) (all_others l) ≡ None
        → (m : K) → ((v I : ℕ) (c : K) → Waiting t v I c → below (plus c (bound v I)) m ≡ false)
        → (S : List ℕ) → Joins l S (Outlet l) → below (cost_of kind l S) m ≡ false
    floor {bound} law unsettled m keys S joins =
        let q = derived S joins in
        let r = front laws inv law (root l) (all_others l) q.0 unsettled q.1 in
        let e : plus q.0 (bound (root l) (all_others l)) ≡ q.0 = ap (plus q.0) law.at_root ∙ unit_r laws q.0 in
        le_trans laws _ _ _ (keys r.0 r.1 r.2 r.3) (le_trans laws _ _ _ r.4 (le_trans laws _ _ _ (le_eq laws e) q.2))

    pub hopeless : ((v I : ℕ) (c : K) → Waiting t v I c → ⊥) → t.settled (root l) (all_others l) ≡ None → (S : List ℕ) → Joins l S (Outlet l) → ⊥
    hopeless none unsettled S joins =
        let q = derived S joins in
        let r = front laws inv (no_bound laws) (root l) (all_others l) q.0 unsettled q.1 in
        none r.0 r.1 r.2 r.3
