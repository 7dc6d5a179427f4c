-- What the heap's own functions do, and what they keep while a code rises or sinks. Assumes nothing.
use Rattle.std.specs.Prelude.{◌≡◌, ℕ, ◌+◌, ◌-◌, ◌<◌, ◌≤◌, Bool, true, false, ◌≢◌, List, Some, None, Option, slice_index, slice_index_or, slice_set}
use Rattle.std.specs.List.{slice_get, swap}
use Rattle.heap.specs.declared.Heap.{Heap}
use Rattle.heap.specs.Heaps.{heap_waits, heap_lender, before, parent}
use Rattle.queue.specs.Waits.{Least, taken}

-- r says whether the code a comes before b
abbrev pub Tells : {K : Type 0} → (K → K → Bool) → List K → ℕ → ℕ → Bool → Type 0
Tells {K} below keys a b r = (d : K) → r ≡ before below keys d a b

-- r says whether a key is below that of the code c
abbrev pub TellsLess : {K : Type 0} → (K → K → Bool) → K → List K → ℕ → Bool → Type 0
TellsLess {K} below key keys c r = (d : K) → r ≡ below key (slice_index_or keys c d)

-- the heap g has the capacity and the memory of h, and in its rows what is said here
pub record Made {K : Type 0} (h g : Heap K) (len : ℕ) (keys : List K) (codes places : List ℕ) : Type 0 where
  pub caps : g.cap ≡ h.cap
  pub lends : heap_lender g ≡ heap_lender h
  pub lens : g.len ≡ len
  pub keyed : g.keys.now ≡ keys
  pub coded : g.codes.now ≡ codes
  pub placed : g.places.now ≡ places

-- no code waits any more
abbrev pub Emptied : {K : Type 0} → Heap K → Heap K → Type 0
Emptied h g = Made h g 0 h.keys.now h.codes.now h.places.now

-- the codes at the places i and j are exchanged, and the place of each is noted
abbrev pub Exchanged : {K : Type 0} → Heap K → Heap K → ℕ → ℕ → Type 0
Exchanged h g i j =
    Made h g h.len h.keys.now (swap h.codes.now i j)
    (slice_set (slice_set h.places.now (slice_index h.codes.now j) i) (slice_index h.codes.now i) j)

-- a code has another key
abbrev pub Rekeyed : {K : Type 0} → Heap K → Heap K → ℕ → K → Type 0
Rekeyed h g c key = Made h g h.len (slice_set h.keys.now c key) h.codes.now h.places.now

-- one more code, with its key, behind all others
abbrev pub Appended : {K : Type 0} → Heap K → Heap K → ℕ → K → Type 0
Appended h g c key = Made h g (h.len + 1) (slice_set h.keys.now c key) (slice_set h.codes.now h.len c) (slice_set h.places.now c h.len)

-- the last code stands in the place of the first
abbrev pub LastFirst : {K : Type 0} → Heap K → Heap K → Type 0
LastFirst h g =
    Made h g (h.len - 1) h.keys.now (slice_set h.codes.now 0 (slice_index h.codes.now (h.len - 1)))
    (slice_set h.places.now (slice_index h.codes.now (h.len - 1)) 0)

-- nothing but the order of the codes has changed
pub record Kept {K : Type 0} (h g : Heap K) : Type 0 where
  pub caps : g.cap ≡ h.cap
  pub lens : g.len ≡ h.len
  pub keys : g.keys.now ≡ h.keys.now
  pub lends : heap_lender g ≡ heap_lender h
  pub waits : heap_waits g ≡ heap_waits h

-- none where nothing waits; else the first code and its key
abbrev pub Top : {K : Type 0} → Heap K → Option (K × ℕ) → Type 0
Top h None = h.len ≡ 0
Top h (Some p) = (0 < h.len) × (slice_index h.codes.now 0 ≡ p.1) × (slice_get h.keys.now p.1 ≡ Some p.0)

-- after what waited in ks, its least pair waits no more in js
abbrev pub Takes : {K : Type 0} → (K → K → Bool) → List (Option K) → List (Option K) → Type 0
Takes {K} below ks js = (r : Option (K × ℕ)) → Least below ks r → js ≡ taken ks r

-- the codes under the place `at` do not come before the one over it
abbrev pub Over : (ℕ → ℕ → Bool) → ℕ → (ℕ → ℕ) → ℕ → Type 0
Over u len f at = (k : ℕ) → 0 < k → k < len → parent k ≡ at → 0 < at → u (f k) (f (parent at)) ≡ false

-- in order but for the code at one place
abbrev pub OrderedButAt : (ℕ → ℕ → Bool) → ℕ → (ℕ → ℕ) → ℕ → Type 0
OrderedButAt u len f at = (k : ℕ) → 0 < k → k < len → k ≢ at → u (f k) (f (parent k)) ≡ false

-- in order but for the codes under one place
abbrev pub OrderedButUnder : (ℕ → ℕ → Bool) → ℕ → (ℕ → ℕ) → ℕ → Type 0
OrderedButUnder u len f at = (k : ℕ) → 0 < k → k < len → parent k ≢ at → u (f k) (f (parent k)) ≡ false

-- a heap in order but for the code at one place
abbrev pub ButAt : {K : Type 0} → (K → K → Bool) → Heap K → ℕ → Type 0
ButAt {K} below h at =
    (d : K) →
    OrderedButAt (before below h.keys.now d) h.len (λ k. slice_index h.codes.now k) at ×
    Over (before below h.keys.now d) h.len (λ k. slice_index h.codes.now k) at

-- a heap in order but for the codes under one place
abbrev pub ButUnder : {K : Type 0} → (K → K → Bool) → Heap K → ℕ → Type 0
ButUnder {K} below h at =
    (d : K) →
    OrderedButUnder (before below h.keys.now d) h.len (λ k. slice_index h.codes.now k) at ×
    Over (before below h.keys.now d) h.len (λ k. slice_index h.codes.now k) at

-- r is one of the two places under `at`: the right one where its code comes before that of the left one
pub record Chosen {K : Type 0} (below : K → K → Bool) (h : Heap K) (at r : ℕ) : Type 0 where
  pub from : at + at + 1 ≤ r
  pub to : r ≤ at + at + 1 + 1
  pub inside : r < h.len
  pub right : (d : K) → at + at + 1 < r → before below h.keys.now d (slice_index h.codes.now (at + at + 1 + 1)) (slice_index h.codes.now (at + at + 1)) ≡ true
  pub left : (d : K) → r < at + at + 1 + 1 → at + at + 1 + 1 < h.len → before below h.keys.now d (slice_index h.codes.now (at + at + 1 + 1)) (slice_index h.codes.now (at + at + 1)) ≡ false

-- r is a place under `at`, and the code of no other place under it comes before
pub record LeastChild {K : Type 0} (below : K → K → Bool) (h : Heap K) (at r : ℕ) : Type 0 where
  pub inside : r < h.len
  pub under : parent r ≡ at
  pub after : at < r
  pub least : (d : K) (k : ℕ) → 0 < k → k < h.len → parent k ≡ at → before below h.keys.now d (slice_index h.codes.now k) (slice_index h.codes.now r) ≡ false
