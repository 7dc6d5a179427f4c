-- What a step of a heap left in its rows, carried over to the heap. Assumes nothing.
use Rattle.std.proofs.Common.{set, ◌≡◌, ℕ, ◌<◌, ◌≤◌, Bool, List, map, length, get_or, replicate, None, sym, refl, ap, ◌∙◌, subst, arith}
use Rattle.std.specs.List.{range_with_len, swap}
use Rattle.heap.specs.declared.Heap.{Heap}
use Rattle.heap.specs.Heaps.{waits_at, heap_waits, before}
use Rattle.heap.specs.Sifts.{Made, Emptied, Exchanged, Kept, OrderedButAt, Over, ButAt}
use Rattle.heap.proofs.Stands.{length_waits, same_made, nothing_made, none_at, swap_at}

module _ {K : Type 0} {h g : Heap K} {len : ℕ} {keys : List K} {codes places : List ℕ} (m : Made h g len keys codes places) where
  -- what holds of what is said of the rows holds of the rows
  pub made_as : (P : ℕ → ℕ → List K → List ℕ → List ℕ → Type 0) → P h.cap len keys codes places → P g.cap g.len g.keys.now g.codes.now g.places.now
  made_as P p =
      subst (λ c. P c g.len g.keys.now g.codes.now g.places.now) (sym m.caps)
      (subst (λ n. P h.cap n g.keys.now g.codes.now g.places.now) (sym m.lens)
      (subst (λ ks. P h.cap len ks g.codes.now g.places.now) (sym m.keyed)
      (subst (λ cs. P h.cap len keys cs g.places.now) (sym m.coded)
      (subst (λ ps. P h.cap len keys codes ps) (sym m.placed) p))))

  pub made_waits : heap_waits g ≡ map (waits_at len keys codes places) (range_with_len 0 h.cap)
  unfolding heap_waits
  made_waits = made_as (λ cap n ks cs ps. map (waits_at n ks cs ps) (range_with_len 0 cap) ≡ map (waits_at len keys codes places) (range_with_len 0 h.cap)) refl

  pub made_but_at : (below : K → K → Bool) (at : ℕ) → ((d : K) → OrderedButAt (before below keys d) len (λ k. get_or codes k 0) at × Over (before below keys d) len (λ k. get_or codes k 0) at) → ButAt below g at
  made_but_at below at but =
      made_as (λ cap n ks cs ps. (d : K) → OrderedButAt (before below ks d) n (λ k. get_or cs k 0) at × Over (before below ks d) n (λ k. get_or cs k 0) at) but

-- nothing waits in an emptied heap
pub emptied_waits : {K : Type 0} (h g : Heap K) → Emptied h g → heap_waits g ≡ replicate (length (heap_waits h)) None
emptied_waits h g m =
    made_waits m ∙
    nothing_made (waits_at 0 h.keys.now h.codes.now h.places.now) h.cap None (λ x lt. none_at h.keys.now h.codes.now h.places.now x) ∙
    ap (λ n. replicate n None) (sym (length_waits h))

-- two codes have changed places
module _ {K : Type 0} (h g : Heap K) (i j : ℕ) (li : i < h.len) (lj : j < h.len) (m : Exchanged h g i j) where
  in_codes : h.len ≤ length h.codes.now
  in_codes = let w = h.within in let r : h.cap ≤ length h.codes.now = h.room.2 in omega arith

  pub swap_kept : Kept h g
  unfolding heap_waits
  swap_kept =
      let keys = h.keys.now in
      let codes = h.codes.now in
      let places = h.places.now in
      let codes' = swap codes i j in
      let places' = set (set places (get_or codes j 0) i) (get_or codes i 0) j in
      record {
        caps = m.caps;
        lens = m.lens;
        keys = m.keyed;
        lends = m.lends;
        waits = made_waits m ∙
            same_made (waits_at h.len keys codes places) (waits_at h.len keys codes' places') h.cap h.cap None refl
            (λ x lt. swap_at codes places h.len h.cap i j li lj in_codes h.room.3 h.found keys x);
      }
