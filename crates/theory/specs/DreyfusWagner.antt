-- The Dreyfus–Wagner recurrence for the cost of joining a junction with a set of outlets. Assumes nothing.
use Rattle.std.specs.Prelude.{◌≡◌, ℕ, zero, suc, ◌^◌, ◌<◌, ◌≢◌, bit_and, bit_or}
use Rattle.network.specs.Costs.{Kind, AtMost}
use Rattle.network.specs.Layouts.{Layout, Distance}
use Rattle.network.specs.Bounds.{others, placed, sets}

-- one way to join v with the outlets of I at the cost c: go from v to w, and split I there into two parts;
-- `Part w A a` says that the part A costs a from w
pub record Split {K : Type 0} (kind : Kind K) (l : Layout K) (Part : ℕ → ℕ → K → Type 0) (v I : ℕ) (c : K) : Type 0 where
  pub w : ℕ
  pub A : ℕ
  pub B : ℕ
  pub way : K
  pub a : K
  pub b : K
  pub a_some : A ≢ 0
  pub b_some : B ≢ 0
  pub apart : bit_and A B ≡ 0
  pub whole : bit_or A B ≡ I
  pub distance : Distance kind l v w way
  pub costs_a : Part w A a
  pub costs_b : Part w B b
  pub sum : c ≡ kind.plus way (kind.plus a b)

-- one outlet costs its distance; a set that can be split costs the least of all splits
pub data Recurs {K : Type 0} (kind : Kind K) (l : Layout K) (Part : ℕ → ℕ → K → Type 0) (v : ℕ) : ℕ → K → Type 0 where
  single : {i : ℕ} {c : K} → i < others l → Distance kind l v (placed l i) c → Recurs kind l Part v (2 ^ i) c
  several : {I : ℕ} {c : K} → Split kind l Part v I c → ((d : K) → Split kind l Part v I d → AtMost kind c d) → Recurs kind l Part v I c

-- the costs that n rounds of the recurrence give
abbrev pub Rounds : {K : Type 0} → Kind K → Layout K → ℕ → ℕ → ℕ → K → Type 0
Rounds kind l zero v I c = ⊥
Rounds kind l (suc n) v I c = Recurs kind l (Rounds kind l n) v I c

-- the Dreyfus–Wagner cost of v with the outlets of I: as many rounds as there are sets are enough
abbrev pub DreyfusWagner : {K : Type 0} → Kind K → Layout K → ℕ → ℕ → K → Type 0
DreyfusWagner kind l v I c = Rounds kind l (sets l) v I c
