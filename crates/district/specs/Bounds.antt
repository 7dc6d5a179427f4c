-- Runs and outlets at the junctions of a district. Assumes nothing.
use Rattle.std.specs.Prelude.{ℕ, ◌<◌, List, length, slice_index, slice_index_or}
use Rattle.network.specs.declared.run.Run.{Run}

-- both ends of each run are among the first n junctions
abbrev pub EndsBelow : {K : Type 0} → ℕ → List (Run K) → Type 0
EndsBelow {K} n rs = (k : ℕ) (d : Run K) → k < length rs → ((slice_index_or rs k d).a < n) × ((slice_index_or rs k d).b < n)

-- each of the list is among the first n junctions
abbrev pub AllBelow : ℕ → List ℕ → Type 0
AllBelow n os = (k : ℕ) → k < length os → slice_index os k < n
