-- What waits in a heap over lent rows, and a heap in good order. Assumes nothing.
use Rattle.std.specs.Prelude.{◌≡◌, ℕ, ◌-◌, ◌/◌, ◌<◌, min, Bool, true, false, cond, List, [], ◌∷◌, map, length, None, Option, nat_lt, slice_index, slice_index_or}
use Rattle.std.specs.List.{range_with_len, slice_get}
use Rattle.heap.specs.Places.{stands}
use Rattle.heap.specs.declared.Heap.{Heap}

-- how many codes the three rows have places for; a code is kept in 32 bits, so at most 2^32 − 1
abbrev pub codes_held : {K : Type 0} → List K → List ℕ → List ℕ → ℕ
codes_held keys codes places = min 4294967295 (min (length keys) (min (length codes) (length places)))

-- the key at which a code waits, or none
abbrev pub waits_at : {K : Type 0} → ℕ → List K → List ℕ → List ℕ → ℕ → Option K
waits_at len keys codes places c = cond (stands len codes places c) (slice_get keys c) None

-- what waits at each code below the capacity
unfoldable pub heap_waits : {K : Type 0} → Heap K → List (Option K)
heap_waits h = map (waits_at h.len h.keys.now h.codes.now h.places.now) (range_with_len 0 h.cap)

-- the memory that a heap was lent
abbrev pub heap_lender : {K : Type 0} → Heap K → List ℕ
heap_lender h = h.keys.ghost_name ∷ h.codes.ghost_name ∷ h.places.ghost_name ∷ []

-- the code a comes before b: by the keys, and then by the codes; d stands for a key past the row, of which nothing is asked
abbrev pub before : {K : Type 0} → (K → K → Bool) → List K → K → ℕ → ℕ → Bool
before below keys d a b =
    cond (below (slice_index_or keys a d) (slice_index_or keys b d)) true (cond (below (slice_index_or keys b d) (slice_index_or keys a d)) false (nat_lt a b))

-- the place over a place
abbrev pub parent : ℕ → ℕ
parent k = (k - 1) / 2

-- none of the first len comes before its parent
abbrev pub Ordered : (ℕ → ℕ → Bool) → ℕ → (ℕ → ℕ) → Type 0
Ordered u len f = (k : ℕ) → 0 < k → k < len → u (f k) (f (parent k)) ≡ false

-- a heap in good order: no code that waits comes before its parent
pub record Good {K : Type 0} (below : K → K → Bool) (h : Heap K) : Type 0 where
  pub ordered : (d : K) → Ordered (before below h.keys.now d) h.len (λ k. slice_index h.codes.now k)
