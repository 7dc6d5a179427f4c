-- Sets of open runs by their numbers, and by the runs themselves. Assumes nothing.
use Rattle.std.proofs.Common.{◌≡◌, ℕ, suc, ◌+◌, ◌-◌, ◌≤◌, Bool, true, false, cond, ◌⊎◌, List, [], ◌∷◌, Some, None, sym, refl, ap, ◌∙◌, subst, inl, inr, arith}
use Rattle.std.proofs.lemmas.Bool.{cases_eq}
use Rattle.network.specs.Costs.{Kind}
use Rattle.network.specs.Layouts.{Layout, picked, open_run, Leads, Link, Member, here as this, there as later, Climbs, none as no_more, more, OpenSet, cost_of, cost_of_run, Path, stay as rest, go as along}
use Rattle.network.specs.declared.run.Run.{Run}
use Rattle.farthest.specs.Trials.{open_runs}
use Rattle.farthest.proofs.Graph.{Spans, Joins, here, there, Way, stay, go, Part, none, leave, keep, total}
use Rattle.farthest.proofs.Rounds.{none_some, some_same}
use Rattle.farthest.proofs.Walks.{nothing_of}

module _ {K : Type 0} (l : Layout K) where
  -- the numbers S are those of the runs E, one after the other
  pub data Numbers : List ℕ → List (Run K) → Type 0 where
    none_of : Numbers [] []
    more_of : {i : ℕ} {r : Run K} {S : List ℕ} {E : List (Run K)} → open_run l i ≡ Some r → Numbers S E → Numbers (i ∷ S) (r ∷ E)

  pub same_cost : (kind : Kind K) {S : List ℕ} {E : List (Run K)} → Numbers S E → cost_of kind l S ≡ total kind E
  same_cost kind none_of = refl
  same_cost kind (more_of e n) = λ i. kind.plus (cost_of_run kind (e i)) (same_cost kind n i)

  -- ---- ways

  spans_of : {r : Run K} {u w : ℕ} {k : K} → Leads r u w k → Spans r u w k
  spans_of h = elim h.ends [
    | inl p ↦ inl (record { starts = p.0; stops = p.1; costs = h.costs })
    | inr p ↦ inr (record { starts = p.0; stops = p.1; costs = h.costs })
  ]

  leads_of : {r : Run K} {u w : ℕ} {k : K} → Spans r u w k → Leads r u w k
  leads_of (inl s) = record { ends = inl (s.starts, s.stops); costs = s.costs }
  leads_of (inr s) = record { ends = inr (s.starts, s.stops); costs = s.costs }

  joins_of : {S : List ℕ} {E : List (Run K)} → Numbers S E → {i u w : ℕ} {k : K} → Member i S → Link l i u w k → Joins u w k E
  joins_of none_of m h = elim m [ ]
  joins_of (more_of {r = r} e n) {u = u} {w = w} {k = k} this h = here (subst (λ x. Spans x u w k) (some_same (sym h.is_open ∙ e)) (spans_of h.leads))
  joins_of (more_of e n) (later m) h = there (joins_of n m h)

  link_of : {S : List ℕ} {E : List (Run K)} → Numbers S E → {u w : ℕ} {k : K} → Joins u w k E → (i : ℕ) × Member i S × Link l i u w k
  link_of none_of j = elim j [ ]
  link_of (more_of {i = i} {r = r} e n) (here s) = (i, this, record { run = r; is_open = e; leads = leads_of s })
  link_of (more_of e n) (there j) = let x = link_of n j in (x.0, later x.1, x.2)

  pub way_by : {S : List ℕ} {E : List (Run K)} → Numbers S E → {u v : ℕ} → Path l S u v → Way E u v
  way_by n rest = stay
  way_by n (along m h p) = go (joins_of n m h) (way_by n p)

  pub path_by : {S : List ℕ} {E : List (Run K)} → Numbers S E → {u v : ℕ} → Way E u v → Path l S u v
  path_by n stay = rest
  path_by n (go j p) = let x = link_of n j in along x.1 x.2 (path_by n p)

  -- ---- sets

  -- the runs from the number b on
  record From (b : ℕ) (rs : List (Run K)) (os : List Bool) : Type 0 where
    at : (i : ℕ) → picked rs os i ≡ open_run l (b + i)

  from_next : {b : ℕ} {r : Run K} {o : Bool} {rs : List (Run K)} {os : List Bool} → From b (r ∷ rs) (o ∷ os) → From (suc b) rs os
  from_next {b} f = record { at = λ i. let e : b + suc i ≡ suc b + i = omega arith in f.at (suc i) ∙ ap (open_run l) e }

  from_first : {b : ℕ} {r : Run K} {o : Bool} {rs : List (Run K)} {os : List Bool} → From b (r ∷ rs) (o ∷ os) → cond o (Some r) None ≡ open_run l b
  from_first {b} f = let e : b + 0 ≡ b = omega arith in f.at 0 ∙ ap (open_run l) e

  lower : {a b : ℕ} {S : List ℕ} → a ≤ b → Climbs l b S → Climbs l a S
  lower h no_more = no_more
  lower h (more m e c) = more (omega arith) e c

  -- the numbers of a part of the open runs
  pub record Listed (b : ℕ) (E : List (Run K)) : Type 0 where
    pub set : List ℕ
    pub climbs : Climbs l b set
    pub numbers : Numbers set E

  listed_skip : {b : ℕ} {E : List (Run K)} → Listed (suc b) E → Listed b E
  listed_skip x = record { set = x.set; climbs = lower (omega arith) x.climbs; numbers = x.numbers }

  listed_from : (b : ℕ) (rs : List (Run K)) (os : List Bool) → From b rs os → {E : List (Run K)} → Part E (open_runs rs os) → Listed b E
  listed_from b [] os f none = record { set = []; climbs = no_more; numbers = none_of }
  listed_from b (r ∷ rs) [] f none = record { set = []; climbs = no_more; numbers = none_of }
  listed_from b (r ∷ rs) (o ∷ os) f {E} p = look o (from_first f) p (λ T q. listed_from (suc b) rs os (from_next f) q)
    where
      look : (o : Bool) → cond o (Some r) None ≡ open_run l b → {E : List (Run K)} → Part E (cond o (r ∷ open_runs rs os) (open_runs rs os))
          → ((T : List (Run K)) → Part T (open_runs rs os) → Listed (suc b) T) → Listed b E
      look false e p again = listed_skip (again _ p)
      look true e (leave p) again = listed_skip (again _ p)
      look true e (keep p) again = let x = again _ p in record { set = b ∷ x.set; climbs = more (omega arith) (sym e) x.climbs; numbers = more_of (sym e) x.numbers }

  -- the runs of a set of numbers
  pub record Runs (E₀ : List (Run K)) (S : List ℕ) : Type 0 where
    pub runs : List (Run K)
    pub part : Part runs E₀
    pub numbers : Numbers S runs

  runs_skip : (o : Bool) (r : Run K) {E : List (Run K)} {S : List ℕ} → Runs E S → Runs (cond o (r ∷ E) E) S
  runs_skip true r x = record { runs = x.runs; part = leave x.part; numbers = x.numbers }
  runs_skip false r x = x

  runs_take : (o : Bool) (r : Run K) {i : ℕ} {x : Run K} {E : List (Run K)} {S : List ℕ} → cond o (Some r) None ≡ Some x → open_run l i ≡ Some x → Runs E S → Runs (cond o (r ∷ E) E) (i ∷ S)
  runs_take false r q e y = none_some q
  runs_take true r q e y = record { runs = r ∷ y.runs; part = keep y.part; numbers = more_of (e ∙ sym q) y.numbers }

  none_past : (b i : ℕ) (rs : List (Run K)) (os : List Bool) {r : Run K} {G : Type 0} → b ≤ i → From b rs os → ((j : ℕ) → picked rs os j ≡ None) → open_run l i ≡ Some r → G
  none_past b i rs os h f n e = let q : b + (i - b) ≡ i = omega arith in none_some (sym (n (i - b)) ∙ (f.at (i - b) ∙ (ap (open_run l) q ∙ e)))

  runs_from : (b : ℕ) (rs : List (Run K)) (os : List Bool) → From b rs os → {low : ℕ} {S : List ℕ} → b ≤ low → Climbs l low S → Runs (open_runs rs os) S
  runs_from b rs os f h no_more = record { runs = []; part = nothing_of (open_runs rs os); numbers = none_of }
  runs_from b [] os f h (more {i = i} m e c) = none_past b i [] os (omega arith) f (λ j. refl) e
  runs_from b (r ∷ rs) [] f h (more {i = i} m e c) = none_past b i (r ∷ rs) [] (omega arith) f (λ j. refl) e
  runs_from b (r ∷ rs) (o ∷ os) f h (more {i = i} {S = S} {r = x} m e c) = look (cases_eq i b) (λ low T q d. runs_from (suc b) rs os (from_next f) q d)
    where
      look : (i ≡ b) ⊎ (i ≡ b → ⊥) → ((low : ℕ) (T : List ℕ) → suc b ≤ low → Climbs l low T → Runs (open_runs rs os) T) → Runs (cond o (r ∷ open_runs rs os) (open_runs rs os)) (i ∷ S)
      look (inl q) again = runs_take o r (from_first f ∙ (ap (open_run l) (sym q) ∙ e)) e (again _ _ (omega arith) c)
      look (inr n) again = runs_skip o r (again _ _ (omega arith) (more {low = suc b} (omega arith) e c))

  from_all : From 0 l.runs l.«open»
  from_all = record { at = λ i. let e : i ≡ 0 + i = omega arith in ap (open_run l) e }

  pub listed : {E : List (Run K)} → Part E (open_runs l.runs l.«open») → Listed 0 E
  listed p = listed_from 0 l.runs l.«open» from_all p

  pub runs_of : {S : List ℕ} → OpenSet l S → Runs (open_runs l.runs l.«open») S
  runs_of c = runs_from 0 l.runs l.«open» from_all (omega arith) c
