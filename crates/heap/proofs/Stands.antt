-- What waits in a heap is what stands at its places. Assumes nothing.
use Rattle.std.proofs.Common.{◌≡◌, ℕ, ◌<◌, ◌≤◌, Bool, cond, eqb, ltb, ◌≢◌, List, map, length, get_or, set, replicate, None, Decides, sym, refl, ap, ◌∙◌, inl, inr, arith}
use Rattle.std.specs.List.{range_with_len, swap, slice_get}
use Rattle.std.proofs.lemmas.List.FromFn.{length-map-range_with_len, get_or-map-range_with_len, fill_by_all}
use Rattle.std.proofs.lemmas.List.Edits.{Swapped, swap_is, swapped_from_swap}
use Rattle.std.proofs.lemmas.List.{length-set, get_or-set_same, get_or-set_other, get_or-replicate, length-replicate}
use Rattle.std.proofs.lemmas.Bool.{cases_eq, and_parts, and_from, and_left, ltb-true, eqb-true, lt-ltb, le-ltb, eq-eqb}
use Rattle.std.proofs.lemmas.Bool.Decides.{same_from_decides}
use Rattle.heap.specs.declared.Heap.{Heap}
use Rattle.heap.specs.Heaps.{waits_at, heap_waits, Good}
use Rattle.heap.specs.Places.{stands, Found}
use Rattle.heap.specs.Sifts.{Kept}

-- c is one of the first n
abbrev pub Among : ℕ → List ℕ → ℕ → Type 0
Among n codes c = (k : ℕ) × (k < n) × (get_or codes k 0 ≡ c)

pub stands_decides : (len cap : ℕ) (codes places : List ℕ) → Found len cap codes places → (c : ℕ) → Decides (stands len codes places c) (Among len codes c)
stands_decides len cap codes places found c = (
  (λ t. let p = and_parts (ltb (get_or places c 0) len) (eqb (get_or codes (get_or places c 0) 0) c) t in
      (get_or places c 0, ltb-true (get_or places c 0) len p.0, eqb-true (get_or codes (get_or places c 0) 0) c p.1)),
  (λ m. let at : get_or places c 0 ≡ m.0 = ap (λ x. get_or places x 0) (sym m.2) ∙ (found m.0 m.1).1 in
      let lt : get_or places c 0 < len = omega (arith, m.1) in
      and_from (ltb (get_or places c 0) len) (eqb (get_or codes (get_or places c 0) 0) c)
      (lt-ltb (get_or places c 0) len lt)
      (eq-eqb (get_or codes (get_or places c 0) 0) c (ap (λ k. get_or codes k 0) at ∙ m.2))),
)

-- a list made by places, against another
pub same_made : {X : Type 0} (f g : ℕ → X) (m n : ℕ) (d : X) → m ≡ n → ((c : ℕ) → c < n → g c ≡ f c) → map g (range_with_len 0 m) ≡ map f (range_with_len 0 n)
same_made f g m n d e h =
    fill_by_all f (map g (range_with_len 0 m)) n d (length-map-range_with_len g 0 m ∙ e)
    (λ k lt. get_or-map-range_with_len g 0 m k k d (omega arith) (omega arith) ∙ h k lt)

pub set_made : {X : Type 0} (f g : ℕ → X) (m n x : ℕ) (v d : X) → m ≡ n → x < n → g x ≡ v → ((c : ℕ) → c < n → c ≢ x → g c ≡ f c) → map g (range_with_len 0 m) ≡ set (map f (range_with_len 0 n)) x v
set_made f g m n x v d e lt at h =
    sym (fill_by_all g (set (map f (range_with_len 0 n)) x v) m d (length-set (map f (range_with_len 0 n)) x v ∙ length-map-range_with_len f 0 n ∙ sym e)
    (λ k l.
    elim (cases_eq k x) [
      | inl q ↦
          let room : x < length (map f (range_with_len 0 n)) = omega (arith, length-map-range_with_len f 0 n) in
          ap (λ i. get_or (set (map f (range_with_len 0 n)) x v) i d) q ∙ get_or-set_same (map f (range_with_len 0 n)) x v d room ∙ sym at ∙ ap g (sym q)
      | inr ne ↦
          get_or-set_other (map f (range_with_len 0 n)) x k v d ne ∙ get_or-map-range_with_len f 0 n k k d (omega arith) (omega arith) ∙ sym (h k (omega arith) ne)
    ]))

pub nothing_made : {X : Type 0} (f : ℕ → X) (n : ℕ) (d : X) → ((c : ℕ) → c < n → f c ≡ d) → map f (range_with_len 0 n) ≡ replicate n d
nothing_made f n d h =
    sym (fill_by_all f (replicate n d) n d (length-replicate n d) (λ k lt. get_or-replicate n k d d lt ∙ sym (h k lt)))

-- nothing stands at no places
pub none_at : {K : Type 0} (keys : List K) (codes places : List ℕ) (c : ℕ) → waits_at 0 keys codes places c ≡ None
none_at keys codes places c =
    ap (λ b. cond b (slice_get keys c) None) (and_left (ltb (get_or places c 0) 0) (eqb (get_or codes (get_or places c 0) 0) c) (le-ltb (get_or places c 0) 0 (omega arith)))

-- the same codes stand
pub same_at : {K : Type 0} (keys keys' : List K) (len len' cap : ℕ) (codes codes' places places' : List ℕ) (c : ℕ) →
    Found len cap codes places → Found len' cap codes' places' → slice_get keys' c ≡ slice_get keys c →
    (Among len' codes' c → Among len codes c) → (Among len codes c → Among len' codes' c) →
    waits_at len' keys' codes' places' c ≡ waits_at len keys codes places c
same_at keys keys' len len' cap codes codes' places places' c fd fd' e there back =
    let D = stands_decides len cap codes places fd c in
    let D' = stands_decides len' cap codes' places' fd' c in
    let b = same_from_decides (stands len' codes' places' c) (stands len codes places c) D' ((λ t. back (D.0 t)), (λ m. D.1 (there m))) in
    cc

pub length_waits : {K : Type 0} (h : Heap K) → length (heap_waits h) ≡ h.cap
unfolding heap_waits
length_waits h = length-map-range_with_len (waits_at h.len h.keys.now h.codes.now h.places.now) 0 h.cap

pub at_waits : {K : Type 0} (h : Heap K) (c : ℕ) → c < h.cap → get_or (heap_waits h) c None ≡ waits_at h.len h.keys.now h.codes.now h.places.now c
unfolding heap_waits
at_waits h c lt = get_or-map-range_with_len (waits_at h.len h.keys.now h.codes.now h.places.now) 0 h.cap c c None lt (omega arith)

-- a heap where nothing waits is in good order
pub empty_good : {K : Type 0} (below : K → K → Bool) (h : Heap K) → h.len ≡ 0 → Good below h
empty_good below h e = record {
  ordered = λ d k p lt. absurd (omega arith);
}

pub kept_trans : {K : Type 0} (h g k : Heap K) → Kept h g → Kept g k → Kept h k
kept_trans h g k p q = record {
  caps = q.caps ∙ p.caps;
  lens = q.lens ∙ p.lens;
  keys = q.keys ∙ p.keys;
  lends = q.lends ∙ p.lends;
  waits = q.waits ∙ p.waits;
}

-- exchanging two places
module _ (codes places : List ℕ) (len cap i j : ℕ) (li : i < len) (lj : j < len) (coded : len ≤ length codes) (placed : cap ≤ length places) (found : Found len cap codes places) where
  swaps : Swapped (λ k. get_or codes k 0) (λ k. get_or (swap codes i j) k 0) i j
  swaps = swapped_from_swap codes (swap codes i j) i j 0 (omega arith) (omega arith) refl

  pub swap_among : (c : ℕ) → Among len codes c → Among len (swap codes i j) c
  swap_among c m =
      elim (cases_eq m.0 i) [
        | inl e ↦ (j, lj, swaps.1 ∙ ap (λ k. get_or codes k 0) (sym e) ∙ m.2)
        | inr p ↦ elim (cases_eq m.0 j) [
          | inl e ↦ (i, li, swaps.0 ∙ ap (λ k. get_or codes k 0) (sym e) ∙ m.2)
          | inr q ↦ (m.0, m.1, swaps.2 m.0 p q ∙ m.2)
        ]
      ]

  pub among_swap : (c : ℕ) → Among len (swap codes i j) c → Among len codes c
  among_swap c m =
      elim (cases_eq m.0 i) [
        | inl e ↦ (j, lj, sym swaps.0 ∙ ap (λ k. get_or (swap codes i j) k 0) (sym e) ∙ m.2)
        | inr p ↦ elim (cases_eq m.0 j) [
          | inl e ↦ (i, li, sym swaps.1 ∙ ap (λ k. get_or (swap codes i j) k 0) (sym e) ∙ m.2)
          | inr q ↦ (m.0, m.1, sym (swaps.2 m.0 p q) ∙ m.2)
        ]
      ]

  -- the codes at two places are two
  one_code : (k m : ℕ) → k < len → m < len → k ≢ m → get_or codes k 0 ≢ get_or codes m 0
  one_code k m lk lm ne s =
      let z : get_or places (get_or codes k 0) 0 ≡ get_or places (get_or codes m 0) 0 = ap (λ c. get_or places c 0) s in
      ne (omega (arith, (found k lk).1, (found m lm).1))

  -- to note both places is to exchange what was noted
  noted : set (set places (get_or codes j 0) i) (get_or codes i 0) j ≡ swap places (get_or codes j 0) (get_or codes i 0)
  noted =
      let p = (found i li).1 in
      let q = (found j lj).1 in
      let e = swap_is places (get_or codes j 0) (get_or codes i 0) 0 (omega (arith, (found j lj).0)) (omega (arith, (found i li).0)) in
      cc

  pub swap_found : Found len cap (swap codes i j) (set (set places (get_or codes j 0) i) (get_or codes i 0) j)
  swap_found k lt =
      let a = get_or codes i 0 in
      let b = get_or codes j 0 in
      let P = set (set places b i) a j in
      let S : Swapped (λ c. get_or places c 0) (λ c. get_or P c 0) b a =
      swapped_from_swap places P b a 0 (omega (arith, (found j lj).0)) (omega (arith, (found i li).0)) noted in
      elim (cases_eq k i) [
        | inl e ↦
            let is : get_or (swap codes i j) k 0 ≡ b = ap (λ k. get_or (swap codes i j) k 0) e ∙ swaps.0 in
            (rw is (found j lj).0, ap (λ c. get_or P c 0) is ∙ S.0 ∙ (found i li).1 ∙ sym e)
        | inr p ↦ elim (cases_eq k j) [
          | inl e ↦
              let is : get_or (swap codes i j) k 0 ≡ a = ap (λ k. get_or (swap codes i j) k 0) e ∙ swaps.1 in
              (rw is (found i li).0, ap (λ c. get_or P c 0) is ∙ S.1 ∙ (found j lj).1 ∙ sym e)
          | inr q ↦
              let is : get_or (swap codes i j) k 0 ≡ get_or codes k 0 = swaps.2 k p q in
              (rw is (found k lt).0, ap (λ c. get_or P c 0) is ∙ S.2 (get_or codes k 0) (one_code k j lt lj q) (one_code k i lt li p) ∙ (found k lt).1)
        ]
      ]

  -- the same of rows that came out so
  pub exchanged_found : (codes' places' : List ℕ) → codes' ≡ swap codes i j → places' ≡ set (set places (get_or codes j 0) i) (get_or codes i 0) j → Found len cap codes' places'
  exchanged_found codes' places' e f = rw (e, f) swap_found

  pub swap_at : {K : Type 0} (keys : List K) (c : ℕ) → waits_at len keys (swap codes i j) (set (set places (get_or codes j 0) i) (get_or codes i 0) j) c ≡ waits_at len keys codes places c
  swap_at keys c = same_at keys keys len len cap codes (swap codes i j) places (set (set places (get_or codes j 0) i) (get_or codes i 0) j) c found swap_found refl (among_swap c) (swap_among c)
