-- Where codes stand in rows of codes and places. Assumes nothing.
use Rattle.std.specs.Prelude.{◌≡◌, ℕ, ◌<◌, Bool, ◌&&◌, List, ◌==◌, nat_lt, slice_index}

-- a code waits where its place is one of the first len, and the code at that place is this one
abbrev pub stands : ℕ → List ℕ → List ℕ → ℕ → Bool
stands len codes places c = nat_lt (slice_index places c) len && slice_index codes (slice_index places c) == c

-- each of the first len codes is below the capacity, and its place is noted
abbrev pub Found : ℕ → ℕ → List ℕ → List ℕ → Type 0
Found len cap codes places = (k : ℕ) → k < len → (slice_index codes k < cap) × (slice_index places (slice_index codes k) ≡ k)
