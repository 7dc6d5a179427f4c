-- Sets of outlets, and the law of a bound on what is still to be paid. Assumes nothing.
use Rattle.std.specs.Prelude.{◌≡◌, ℕ, suc, ◌-◌, ◌/◌, ◌%◌, ◌^◌, ◌<◌, ◌≤◌, ◌⊎◌, List, length, slice_index}
use Rattle.network.specs.Costs.{Kind, AtMost}
use Rattle.network.specs.Layouts.{Layout, OpenSet, Joins, cost_of}

-- the outlet of lowest number
abbrev pub root : {K : Type 0} → Layout K → ℕ
root l = slice_index l.outlets 0

-- how many outlets there are beside the root: they have the places 0, 1 and so on by rising number
abbrev pub others : {K : Type 0} → Layout K → ℕ
others l = length l.outlets - 1

-- the outlet at a place
abbrev pub placed : {K : Type 0} → Layout K → ℕ → ℕ
placed l i = slice_index l.outlets (suc i)

-- how many sets of outlets there are, the empty one counted
abbrev pub sets : {K : Type 0} → Layout K → ℕ
sets l = 2 ^ others l

-- the set of all outlets but the root
abbrev pub all_others : {K : Type 0} → Layout K → ℕ
all_others l = sets l - 1

-- the set I has the outlet at the place i: bit i of the number I is set
abbrev pub Has : ℕ → ℕ → Type 0
Has I i = I / 2 ^ i % 2 ≡ 1

-- every outlet of I is one of J
abbrev pub Inside : ℕ → ℕ → Type 0
Inside I J = (i : ℕ) → Has I i → Has J i

-- u is an outlet of J that is not in I
pub record Missing {K : Type 0} (l : Layout K) (I J u : ℕ) : Type 0 where
  pub place : ℕ
  pub within : place < others l
  pub wanted : Has J place
  pub lacking : Has I place → ⊥
  pub is : u ≡ placed l place

-- the law: nothing is left to pay at the root with all others; and where I lies within J, the bound of (v, I)
-- is at most that of (w, J) and the cost of any set of open runs that joins v, w and the outlets of J not in I
pub record Lawful {K : Type 0} (kind : Kind K) (l : Layout K) (bound : ℕ → ℕ → K) : Type 0 where
  pub at_root : bound (root l) (all_others l) ≡ kind.zero
  pub along : (v w I J : ℕ) (S : List ℕ) → Inside I J → J < sets l → OpenSet l S
      → Joins l S (λ u. (u ≡ v) ⊎ ((u ≡ w) ⊎ Missing l I J u))
      → AtMost kind (bound v I) (kind.plus (bound w J) (cost_of kind l S))
  pub light : (v I : ℕ) → kind.bulk (bound v I) ≤ 2 ^ 48
