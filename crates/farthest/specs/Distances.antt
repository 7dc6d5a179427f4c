-- Distances of junctions to outlets, and the bound that is made of them. Assumes nothing.
use Rattle.std.specs.Prelude.{◌≡◌, ℕ, zero, suc, ◌-◌, ◌/◌, ◌%◌, ◌^◌, ◌<◌, Bool, false, cond, List, length, Some, None, Option, ◌==◌, nat_lt, slice_index}
use Rattle.std.specs.Option.{unwrap_or}
use Rattle.network.specs.Costs.{greater, Kind}
use Rattle.network.specs.Layouts.{Layout, OpenSet, Path, Distance, Priced}

-- what is known of the distance of each junction to the j-th outlet: the root is the 0th, and the outlet at the place i is the (i + 1)th
abbrev pub Distances : Type 0 → Type 0
Distances K = ℕ → ℕ → Option K

-- each is the distance, or none where no set of open runs joins the two
pub record Measured {K : Type 0} (kind : Kind K) (l : Layout K) (ds : Distances K) : Type 0 where
  pub some : (v j : ℕ) (d : K) → j < length l.outlets → ds v j ≡ Some d → Distance kind l v (slice_index l.outlets j) d
  pub none : (v j : ℕ) → j < length l.outlets → ds v j ≡ None → (S : List ℕ) → OpenSet l S → Path l S v (slice_index l.outlets j) → ⊥

-- the j-th outlet is in the set I: the root is in no set
abbrev pub in_set : ℕ → ℕ → Bool
in_set I zero = false
in_set I (suc i) = I / 2 ^ i % 2 == 1

-- the greatest distance from v to one of the first n outlets that is not in I and can be reached, or zero
abbrev pub farthest : {K : Type 0} → Kind K → Distances K → ℕ → ℕ → ℕ → K
farthest kind ds v I zero = kind.zero
farthest kind ds v I (suc j) = cond (in_set I j) (farthest kind ds v I j) (greater kind (farthest kind ds v I j) (unwrap_or (ds v j) kind.zero))

-- the same where v is one of n junctions and I a set of the k outlets but the root, else zero
abbrev pub far_bound : {K : Type 0} → Kind K → ℕ → ℕ → Distances K → ℕ → ℕ → K
far_bound kind n k ds v I = cond (nat_lt v n) (cond (nat_lt I (2 ^ (k - 1))) (farthest kind ds v I k) kind.zero) kind.zero

-- the bound is the distance to the farthest outlet that is not in the set
pub record Far {K : Type 0} (kind : Kind K) (l : Layout K) (bound : ℕ → ℕ → K) : Type 0 where
  pub distances : Distances K
  pub measured : Priced kind l.runs → Measured kind l distances
  pub is : (v I : ℕ) → bound v I ≡ far_bound kind l.junctions (length l.outlets) distances v I
