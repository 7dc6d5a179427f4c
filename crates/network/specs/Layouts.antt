-- What a search reads of a district, sets of its runs, what they join and what they cost. Assumes nothing.
use Rattle.std.specs.Prelude.{◌≡◌, ℕ, zero, suc, ◌<◌, ◌≤◌, Bool, cond, ◌⊎◌, List, [], ◌∷◌, length, Some, None, Option, slice_index_or}
use Rattle.network.specs.declared.run.Run.{Run}
use Rattle.network.specs.Costs.{Kind, AtMost, Price}

-- junctions 0 to N − 1; run i is the i-th of `runs`, and open if the i-th of `open` says so; outlets by rising number
pub record Layout (K : Type 0) : Type 0 where
  pub junctions : ℕ
  pub runs : List (Run K)
  pub «open» : List Bool
  pub outlets : List ℕ

-- the run of a number, if it is laid and open
abbrev pub picked : {K : Type 0} → List (Run K) → List Bool → ℕ → Option (Run K)
picked [] os i = None
picked (r ∷ rs) [] i = None
picked (r ∷ rs) (o ∷ os) zero = cond o (Some r) None
picked (r ∷ rs) (o ∷ os) (suc i) = picked rs os i

abbrev pub open_run : {K : Type 0} → Layout K → ℕ → Option (Run K)
open_run l i = picked l.runs l.«open» i

-- a run leads from u to w at the cost k, in either direction
pub record Leads {K : Type 0} (r : Run K) (u w : ℕ) (k : K) : Type 0 where
  pub ends : ((r.a ≡ u) × (r.b ≡ w)) ⊎ ((r.a ≡ w) × (r.b ≡ u))
  pub costs : r.cost ≡ k

-- the open run of the number i leads from u to w at the cost k
pub record Link {K : Type 0} (l : Layout K) (i u w : ℕ) (k : K) : Type 0 where
  pub run : Run K
  pub is_open : open_run l i ≡ Some run
  pub leads : Leads run u w k

-- i is one of the numbers of S
pub data Member (i : ℕ) : List ℕ → Type 0 where
  here : {S : List ℕ} → Member i (i ∷ S)
  there : {j : ℕ} {S : List ℕ} → Member i S → Member i (j ∷ S)

-- numbers of open runs, from `low` on, each greater than the one before
pub data Climbs {K : Type 0} (l : Layout K) : ℕ → List ℕ → Type 0 where
  none : {low : ℕ} → Climbs l low []
  more : {low i : ℕ} {S : List ℕ} {r : Run K} → low ≤ i → open_run l i ≡ Some r → Climbs l (suc i) S → Climbs l low (i ∷ S)

-- a set of open runs: a strictly climbing list of their numbers
abbrev pub OpenSet : {K : Type 0} → Layout K → List ℕ → Type 0
OpenSet l S = Climbs l 0 S

-- what the run of a number costs, and nothing where there is no such open run
abbrev pub cost_of_run : {K : Type 0} → Kind K → Option (Run K) → K
cost_of_run kind None = kind.zero
cost_of_run kind (Some r) = r.cost

-- the cost of a set of runs: the sum, each run counted once
abbrev pub cost_of : {K : Type 0} → Kind K → Layout K → List ℕ → K
cost_of kind l [] = kind.zero
cost_of kind l (i ∷ S) = kind.plus (cost_of_run kind (open_run l i)) (cost_of kind l S)

-- one can go from u to v along runs of S: stay, or go along one run and on
pub data Path {K : Type 0} (l : Layout K) (S : List ℕ) : ℕ → ℕ → Type 0 where
  stay : {v : ℕ} → Path l S v v
  go : {u w v i : ℕ} {k : K} → Member i S → Link l i u w k → Path l S w v → Path l S u v

-- S joins the junctions that P names: one can go from each to each other along its runs
abbrev pub Joins : {K : Type 0} → Layout K → List ℕ → (ℕ → Type 0) → Type 0
Joins l S P = (u w : ℕ) → P u → P w → Path l S u w

-- v is one of the outlets
abbrev pub Outlet : {K : Type 0} → Layout K → ℕ → Type 0
Outlet l v = Member v l.outlets

-- the least cost of a set of open runs that joins v and w
pub record Distance {K : Type 0} (kind : Kind K) (l : Layout K) (v w : ℕ) (d : K) : Type 0 where
  pub set : List ℕ
  pub is_open : OpenSet l set
  pub joins : Path l set v w
  pub costs : cost_of kind l set ≡ d
  pub least : (S : List ℕ) → OpenSet l S → Path l S v w → AtMost kind d (cost_of kind l S)

-- every run laid has a cost that the questions let in
abbrev pub Priced : {K : Type 0} → Kind K → List (Run K) → Type 0
Priced {K} kind rs = (i : ℕ) (d : Run K) → i < length rs → Price kind (slice_index_or rs i d).cost
