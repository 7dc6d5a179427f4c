-- Derivations: how a cost of joining a junction with a set of outlets is put together. Assumes nothing.
use Rattle.std.specs.Prelude.{◌≡◌, ℕ, ◌^◌, ◌<◌, ◌⊎◌, List, [], ◌∷◌, ◌++◌, bit_and, bit_or}
use Rattle.network.specs.Costs.{Kind, AtMost}
use Rattle.network.specs.Layouts.{Layout, Link, Member, OpenSet, Joins, cost_of}
use Rattle.network.specs.Bounds.{others, placed, Has}

-- u is an outlet of the set I
pub record InSet {K : Type 0} (l : Layout K) (I u : ℕ) : Type 0 where
  pub place : ℕ
  pub within : place < others l
  pub has : Has I place
  pub is : u ≡ placed l place

-- the runs of S join v with the outlets of I
abbrev pub Connects : {K : Type 0} → Layout K → List ℕ → ℕ → ℕ → Type 0
Connects l S v I = Joins l S (λ u. (u ≡ v) ⊎ InSet l I u)

-- v is joined with the outlets of I at the cost c: an outlet by itself, one run more, or two disjoint sets at one junction
pub data Deriv {K : Type 0} (kind : Kind K) (l : Layout K) : ℕ → ℕ → K → Type 0 where
  outlet : (i : ℕ) → i < others l → Deriv kind l (placed l i) (2 ^ i) kind.zero
  step : {v w I i : ℕ} {c k : K} → Link l i v w k → Deriv kind l w I c → Deriv kind l v I (kind.plus c k)
  fork : {v I J : ℕ} {c d : K} → bit_and I J ≡ 0 → Deriv kind l v I c → Deriv kind l v J d → Deriv kind l v (bit_or I J) (kind.plus c d)

-- the numbers of the runs along a derivation, as often as it takes them
abbrev pub uses : {K : Type 0} {kind : Kind K} {l : Layout K} {v I : ℕ} {c : K} → Deriv kind l v I c → List ℕ
uses (outlet i h) = []
uses (step {i = i} link d) = i ∷ uses d
uses (fork apart x y) = uses x ++ uses y

-- S and T have the same members
pub record Same (S T : List ℕ) : Type 0 where
  pub from : (i : ℕ) → Member i S → Member i T
  pub to : (i : ℕ) → Member i T → Member i S

-- c is the least cost of a derivation of (v, I)
pub record Cheapest {K : Type 0} (kind : Kind K) (l : Layout K) (v I : ℕ) (c : K) : Type 0 where
  pub derived : Deriv kind l v I c
  pub least : (d : K) → Deriv kind l v I d → AtMost kind c d

-- c is the least cost of a set of open runs that joins v with the outlets of I
pub record LeastCost {K : Type 0} (kind : Kind K) (l : Layout K) (v I : ℕ) (c : K) : Type 0 where
  pub set : List ℕ
  pub is_open : OpenSet l set
  pub joins : Connects l set v I
  pub costs : cost_of kind l set ≡ c
  pub least : (S : List ℕ) → OpenSet l S → Connects l S v I → AtMost kind c (cost_of kind l S)
