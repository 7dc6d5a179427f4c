-- What a search knows: labels (v, I), a junction with a set of outlets, some settled at a cost, some waiting at one.
-- Assumes nothing.
use Rattle.std.specs.Prelude.{◌≡◌, ℕ, ◌^◌, ◌<◌, ◌≢◌, ◌⊎◌, Some, None, Option, bit_and, bit_or}
use Rattle.network.specs.Costs.{Kind, AtMost}
use Rattle.network.specs.Layouts.{Layout, Link}
use Rattle.network.specs.Bounds.{others, placed}
use Rattle.theory.specs.Derivations.{Deriv}

-- of each label the cost that it is settled at, and the cost that it was reached at
pub record Table (K : Type 0) : Type 0 where
  pub settled : ℕ → ℕ → Option K
  pub reached : ℕ → ℕ → Option K

-- (v, I) is settled at the cost c
abbrev pub Settled : {K : Type 0} → Table K → ℕ → ℕ → K → Type 0
Settled t v I c = t.settled v I ≡ Some c

-- reached, but not settled
abbrev pub Waiting : {K : Type 0} → Table K → ℕ → ℕ → K → Type 0
Waiting t v I c = (t.settled v I ≡ None) × (t.reached v I ≡ Some c)

-- the label (v, I) is settled or waiting, at a cost of at most m
pub record Known {K : Type 0} (kind : Kind K) (t : Table K) (v I : ℕ) (m : K) : Type 0 where
  pub cost : K
  pub has : Settled t v I cost ⊎ Waiting t v I cost
  pub within : AtMost kind cost m

-- what holds between the turns of a search
pub record Searched {K : Type 0} (kind : Kind K) (l : Layout K) (t : Table K) : Type 0 where
  pub outlets : (i : ℕ) → i < others l → Known kind t (placed l i) (2 ^ i) kind.zero
  pub runs : (v w I i : ℕ) (c k : K) → Settled t w I c → Link l i v w k → Known kind t v I (kind.plus c k)
  pub forks : (v I J : ℕ) (c d : K) → Settled t v I c → Settled t v J d → bit_and I J ≡ 0 → Known kind t v (bit_or I J) (kind.plus c d)
  pub cheapest : (v I : ℕ) (c d : K) → Settled t v I c → Deriv kind l v I d → AtMost kind c d

-- each label that is settled or was reached has a derivation at its cost
abbrev pub Sound : {K : Type 0} → Kind K → Layout K → Table K → Type 0
Sound {K} kind l t = (v I : ℕ) (c : K) → Settled t v I c ⊎ (t.reached v I ≡ Some c) → Deriv kind l v I c

-- (v, I) waits at c, and with the bound added no waiting label costs less
pub record Next {K : Type 0} (kind : Kind K) (bound : ℕ → ℕ → K) (t : Table K) (v I : ℕ) (c : K) : Type 0 where
  pub waits : Waiting t v I c
  pub least : (w J : ℕ) (m : K) → Waiting t w J m → AtMost kind (kind.plus c (bound v I)) (kind.plus m (bound w J))

-- a turn settles the label (v, I) at c, leaves what was settled, and tries what that label offers
pub record Turn {K : Type 0} (kind : Kind K) (l : Layout K) (t t' : Table K) (v I : ℕ) (c : K) : Type 0 where
  pub settles : Settled t' v I c
  pub leaves_others : (u J : ℕ) → (u ≢ v) ⊎ (J ≢ I) → t'.settled u J ≡ t.settled u J
  pub holds_waiting : (u J : ℕ) (m : K) → Waiting t u J m → Known kind t' u J m
  pub tries_runs : (u i : ℕ) (k : K) → Link l i u v k → Known kind t' u I (kind.plus c k)
  pub tries_forks : (J : ℕ) (d : K) → Settled t' v J d → bit_and I J ≡ 0 → Known kind t' v (bit_or I J) (kind.plus c d)

-- (v, I) is the label of the outlet at a place, by itself at no cost
pub record Alone {K : Type 0} (kind : Kind K) (l : Layout K) (v I : ℕ) (c : K) : Type 0 where
  pub place : ℕ
  pub within : place < others l
  pub junction : v ≡ placed l place
  pub set : I ≡ 2 ^ place
  pub cost : c ≡ kind.zero

-- nothing is settled, and each outlet but the root waits by itself at no cost
pub record Starts {K : Type 0} (kind : Kind K) (l : Layout K) (t : Table K) : Type 0 where
  pub unsettled : (v I : ℕ) → t.settled v I ≡ None
  pub outlets : (i : ℕ) → i < others l → t.reached (placed l i) (2 ^ i) ≡ Some kind.zero
  pub no_others : (v I : ℕ) (c : K) → t.reached v I ≡ Some c → Alone kind l v I c
