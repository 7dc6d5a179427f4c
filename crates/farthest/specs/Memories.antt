-- What the estimator by the farthest outlet means, by what it holds. Assumes nothing.
use Rattle.std.specs.Prelude.{ℕ, ◌+◌, ◌*◌, ◌/◌, Bool, ◌&&◌, List, [], ◌∷◌, length, None, Option, nat_le, slice_index_or}
use Rattle.network.specs.Costs.{Kind}
use Rattle.farthest.specs.declared.farthest.Farthest.{Farthest}
use Rattle.farthest.specs.Distances.{Distances, far_bound}

-- the distances in a row: twelve places for each junction
abbrev pub in_row : {K : Type 0} → List (Option K) → Distances K
in_row row v j = slice_index_or row (v * 12 + j) None

-- the bound that an estimator has, of its junctions, outlets and distances
abbrev pub bound_of : {K : Type 0} → Kind K → Farthest K → ℕ → ℕ → K
bound_of kind f v I = far_bound kind f.junctions (f.outlets) (in_row f.distances.now) v I

-- so many places have room for twelve outlets, and for a junction for each twelve of them
abbrev pub has_room : ℕ → ℕ → ℕ → Bool
has_room places n k = nat_le n (places / 12) && nat_le k 12

-- what an estimator has room for
abbrev pub room_for : {K : Type 0} → Farthest K → ℕ → ℕ → Bool
room_for f = has_room (length f.distances.now)

-- the row that it was lent
abbrev pub lender_of : {K : Type 0} → Farthest K → List ℕ
lender_of f = f.distances.ghost_name ∷ []
