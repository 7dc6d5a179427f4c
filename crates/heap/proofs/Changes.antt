-- What a key that falls, a new code and the first code's removal leave of a heap. Assumes nothing.
use Rattle.std.proofs.Common.{◌≡◌, ℕ, ◌+◌, ◌-◌, ◌<◌, ◌≤◌, Bool, true, false, cond, ◌≢◌, List, map, length, get_or, set, Some, None, sym, refl, ap, ◌∙◌, inl, inr, arith}
use Rattle.std.specs.List.{range_with_len, slice_get}
use Rattle.std.proofs.lemmas.List.{length-set, get_or-set_same, get_or-set_other}
use Rattle.std.proofs.lemmas.Option.{slice_get-get_or, slice_get_past}
use Rattle.std.proofs.lemmas.Bool.{cases_eq, cases_lt, cases_Bool, both_ways, cond-true, cond-false}
use Rattle.network.specs.Costs.{Kind, Laws}
use Rattle.heap.specs.Heaps.{waits_at, before, parent, Ordered}
use Rattle.heap.specs.Places.{stands, Found}
use Rattle.heap.specs.Sifts.{OrderedButAt, Over}
use Rattle.heap.proofs.Full.{misses}
use Rattle.heap.proofs.Order.{no, from_no, before_cotrans}
use Rattle.heap.proofs.Stands.{Among, stands_decides, set_made, same_at}

nth_set_same : {X : Type 0} (xs : List X) (i : ℕ) (a : X) → i < length xs → slice_get (set xs i a) i ≡ Some a
nth_set_same xs i a lt =
    let more : i < length (set xs i a) = omega (arith, length-set xs i a) in
    slice_get-get_or (set xs i a) i a more ∙ ap Some (get_or-set_same xs i a a lt)

nth_set_other : {X : Type 0} (xs : List X) (i j : ℕ) (a : X) → j ≢ i → slice_get (set xs i a) j ≡ slice_get xs j
nth_set_other xs i j a ne =
    elim (cases_lt j (length xs)) [
      | inl lt ↦
          let more : j < length (set xs i a) = omega (arith, length-set xs i a) in
          slice_get-get_or (set xs i a) j a more ∙ ap Some (get_or-set_other xs i j a a ne) ∙ sym (slice_get-get_or xs j a lt)
      | inr ge ↦
          let past : length (set xs i a) ≤ j = omega (arith, length-set xs i a) in
          slice_get_past (set xs i a) j past ∙ sym (slice_get_past xs j ge)
    ]

-- no code stands at two places
pub one_place : (len cap : ℕ) (codes places : List ℕ) → Found len cap codes places → (i j : ℕ) → i < len → j < len → get_or codes i 0 ≡ get_or codes j 0 → i ≡ j
one_place len cap codes places found i j li lj e =
    let z : get_or places (get_or codes i 0) 0 ≡ get_or places (get_or codes j 0) 0 = ap (λ c. get_or places c 0) e in
    omega (arith, (found i li).1, (found j lj).1)

-- a change of one key tells of no other codes
other_keys : {K : Type 0} (below : K → K → Bool) (keys : List K) (c : ℕ) (key d : K) (a b : ℕ) → a ≢ c → b ≢ c → before below (set keys c key) d a b ≡ before below keys d a b
other_keys below keys c key d a b na nb =
    let e = get_or-set_other keys c a key d na in
    let f = get_or-set_other keys c b key d nb in
    cc

-- The key of a code falls.
module _ {K : Type 0} (keys : List K) (codes places : List ℕ) (len cap c : ℕ) (key : K) where
  pub lower_made : c < cap → cap ≤ length keys → stands len codes places c ≡ true → map (waits_at len (set keys c key) codes places) (range_with_len 0 cap) ≡ set (map (waits_at len keys codes places) (range_with_len 0 cap)) c (Some key)
  lower_made lt room here =
      let set_key = nth_set_same keys c key (omega arith) in
      set_made (waits_at len keys codes places) (waits_at len (set keys c key) codes places) cap cap c (Some key) None refl lt
      (cond-true (stands len codes places c) (slice_get (set keys c key) c) None here ∙ set_key)
      (λ x l ne. ap (λ o. cond (stands len codes places x) o None) (nth_set_other keys c x key ne))

  module _ {kind : Kind K} (laws : Laws kind) (d : K) where
    abbrev below : K → K → Bool
    below = kind.below

    fall : c < length keys → below key (get_or keys c d) ≡ true → (x : ℕ) → x ≢ c → before below keys d x c ≡ false → before below (set keys c key) d x c ≡ false
    fall lt less x ne old =
        let at_c = get_or-set_same keys c key d lt in
        let at_x = get_or-set_other keys c x key d ne in
        let low : below key (get_or keys x d) ≡ true =
        elim (no laws keys d x c old) [
          | inl p ↦ laws.trans key (get_or keys c d) (get_or keys x d) less p
          | inr q ↦ ap (below key) q.0 ∙ less
        ] in
        from_no laws (set keys c key) d x c (inl (cc))

    pub lower_but : (at : ℕ) → c < length keys → below key (get_or keys c d) ≡ true → Found len cap codes places → at < len → get_or codes at 0 ≡ c → Ordered (before below keys d) len (λ k. get_or codes k 0) → OrderedButAt (before below (set keys c key) d) len (λ k. get_or codes k 0) at × Over (before below (set keys c key) d) len (λ k. get_or codes k 0) at
    lower_but at lt less found inside here order =
        let apart : (k : ℕ) → k < len → k ≢ at → get_or codes k 0 ≢ c = λ k l n e. n (one_place len cap codes places found k at l inside (e ∙ sym here)) in (
          (λ k p l n.
              elim (cases_eq (parent k) at) [
                | inl q ↦
                    let is : get_or codes (parent k) 0 ≡ c = ap (λ i. get_or codes i 0) q ∙ here in
                    ap (λ y. before below (set keys c key) d (get_or codes k 0) y) is ∙
                    fall lt less (get_or codes k 0) (apart k l n) (ap (λ y. before below keys d (get_or codes k 0) y) (sym is) ∙ order k p l)
                | inr m ↦ other_keys below keys c key d (get_or codes k 0) (get_or codes (parent k) 0) (apart k l n) (apart (parent k) (omega arith) m) ∙ order k p l
              ]),
          (λ k p l q up.
              let nk : k ≢ at = omega arith in
              let nu : parent at ≢ at = omega arith in
              let low : before below keys d (get_or codes k 0) (get_or codes at 0) ≡ false = ap (λ i. before below keys d (get_or codes k 0) (get_or codes i 0)) (sym q) ∙ order k p l in
              other_keys below keys c key d (get_or codes k 0) (get_or codes (parent at) 0) (apart k l nk) (apart (parent at) (omega arith) nu) ∙
              before_cotrans laws keys d (get_or codes k 0) (get_or codes at 0) (get_or codes (parent at) 0) low (order at up inside)),
        )

-- A new code comes last.
module _ (codes places : List ℕ) (len cap c : ℕ) (lt : c < cap) (placed : cap ≤ length places) (coded : cap ≤ length codes) (found : Found len cap codes places) (away : stands len codes places c ≡ false) where
  not_c : (k : ℕ) → k < len → get_or codes k 0 ≢ c
  not_c k l e = both_ways (stands len codes places c) away ((stands_decides len cap codes places found c).1 (k, l, e))

  pub room_left : len < cap
  room_left = misses cap len (λ k. get_or codes k 0) (λ x. get_or places x 0) c lt found not_c

  old_code : (k : ℕ) → k ≢ len → get_or (set codes len c) k 0 ≡ get_or codes k 0
  old_code k n = get_or-set_other codes len k c 0 n

  new_code : get_or (set codes len c) len 0 ≡ c
  new_code = let r = room_left in get_or-set_same codes len c 0 (omega arith)

  pub insert_found : Found (len + 1) cap (set codes len c) (set places c len)
  insert_found k l =
      elim (cases_eq k len) [
        | inl e ↦
            let is : get_or (set codes len c) k 0 ≡ c = ap (λ i. get_or (set codes len c) i 0) e ∙ new_code in
            (rw is lt, ap (λ x. get_or (set places c len) x 0) is ∙ get_or-set_same places c len 0 (omega arith) ∙ sym e)
        | inr n ↦
            let b : k < len = omega arith in
            let is = old_code k n in
            (rw is (found k b).0, ap (λ x. get_or (set places c len) x 0) is ∙ get_or-set_other places c (get_or codes k 0) len 0 (not_c k b) ∙ (found k b).1)
      ]

  pub insert_made : {K : Type 0} (keys : List K) (key : K) → cap ≤ length keys → map (waits_at (len + 1) (set keys c key) (set codes len c) (set places c len)) (range_with_len 0 cap) ≡ set (map (waits_at len keys codes places) (range_with_len 0 cap)) c (Some key)
  insert_made keys key room =
      let here : stands (len + 1) (set codes len c) (set places c len) c ≡ true =
      (stands_decides (len + 1) cap (set codes len c) (set places c len) insert_found c).1 (len, omega arith, new_code) in
      set_made (waits_at len keys codes places) (waits_at (len + 1) (set keys c key) (set codes len c) (set places c len)) cap cap c (Some key) None refl lt
      (cond-true (stands (len + 1) (set codes len c) (set places c len) c) (slice_get (set keys c key) c) None here ∙ nth_set_same keys c key (omega arith))
      (λ x l ne.
      same_at keys (set keys c key) len (len + 1) cap codes (set codes len c) places (set places c len) x found insert_found (nth_set_other keys c x key ne)
      (λ m.
      elim (cases_eq m.0 len) [
        | inl e ↦ absurd (ne (sym m.2 ∙ ap (λ i. get_or (set codes len c) i 0) e ∙ new_code))
        | inr n ↦ (m.0, omega (arith, m.1), sym (old_code m.0 n) ∙ m.2)
      ])
      (λ m. let n : m.0 ≢ len = omega (arith, m.1) in (m.0, omega (arith, m.1), old_code m.0 n ∙ m.2)))

-- The last code takes the place of the first.
module _ (codes places : List ℕ) (len cap : ℕ) (pos : 0 < len) (placed : cap ≤ length places) (coded : len ≤ length codes) (found : Found len cap codes places) where
  kept_code : (k : ℕ) → k ≢ 0 → get_or (set codes 0 (get_or codes (len - 1) 0)) k 0 ≡ get_or codes k 0
  kept_code k n = get_or-set_other codes 0 k (get_or codes (len - 1) 0) 0 n

  moved_code : get_or (set codes 0 (get_or codes (len - 1) 0)) 0 0 ≡ get_or codes (len - 1) 0
  moved_code = get_or-set_same codes 0 (get_or codes (len - 1) 0) 0 (omega arith)

  pub remove_found : Found (len - 1) cap (set codes 0 (get_or codes (len - 1) 0)) (set places (get_or codes (len - 1) 0) 0)
  remove_found k l =
      let last = get_or codes (len - 1) 0 in
      elim (cases_eq k 0) [
        | inl e ↦
            let is : get_or (set codes 0 (get_or codes (len - 1) 0)) k 0 ≡ get_or codes (len - 1) 0 = ap (λ i. get_or (set codes 0 (get_or codes (len - 1) 0)) i 0) e ∙ moved_code in
            let lt : get_or codes (len - 1) 0 < cap = (found (len - 1) (omega arith)).0 in
            (rw is lt, ap (λ x. get_or (set places last 0) x 0) is ∙ get_or-set_same places last 0 0 (omega arith) ∙ sym e)
        | inr n ↦
            let is = kept_code k n in
            let b : k < len = omega arith in
            let apart : get_or codes k 0 ≢ get_or codes (len - 1) 0 = λ e. let z = one_place len cap codes places found k (len - 1) b (omega arith) e in absurd (omega arith) in
            (rw is (found k b).0, ap (λ x. get_or (set places last 0) x 0) is ∙ get_or-set_other places last (get_or codes k 0) 0 0 apart ∙ (found k b).1)
      ]

  pub remove_made : {K : Type 0} (keys : List K) → map (waits_at (len - 1) keys (set codes 0 (get_or codes (len - 1) 0)) (set places (get_or codes (len - 1) 0) 0)) (range_with_len 0 cap) ≡ set (map (waits_at len keys codes places) (range_with_len 0 cap)) (get_or codes 0 0) None
  remove_made keys =
      let first = get_or codes 0 0 in
      let last = get_or codes (len - 1) 0 in
      let codes' = set codes 0 last in
      let places' = set places last 0 in
      let D = stands_decides (len - 1) cap codes' places' remove_found in
      let old : (x : ℕ) → (m : Among (len - 1) codes' x) → (Among len codes x × (x ≢ first)) =
      λ x m.
      elim (cases_eq m.0 0) [
        | inl e ↦
            let is : get_or codes (len - 1) 0 ≡ x = sym moved_code ∙ ap (λ i. get_or codes' i 0) (sym e) ∙ m.2 in
            ((len - 1, omega arith, is), λ q. let z = one_place len cap codes places found (len - 1) 0 (omega arith) pos (is ∙ q) in absurd (omega (arith, m.1)))
        | inr n ↦
            let is : get_or codes m.0 0 ≡ x = sym (kept_code m.0 n) ∙ m.2 in
            ((m.0, omega (arith, m.1), is), λ q. let z = one_place len cap codes places found m.0 0 (omega (arith, m.1)) pos (is ∙ q) in absurd (omega arith))
      ] in
      let new : (x : ℕ) → x ≢ first → (m : Among len codes x) → Among (len - 1) codes' x =
      λ x ne m.
      let n : m.0 ≢ 0 = λ e. ne (sym m.2 ∙ ap (λ i. get_or codes i 0) e) in
      elim (cases_eq m.0 (len - 1)) [
        | inl e ↦ (0, omega (arith, m.1), moved_code ∙ ap (λ i. get_or codes i 0) (sym e) ∙ m.2)
        | inr o ↦ (m.0, omega (arith, m.1), kept_code m.0 n ∙ m.2)
      ] in
      let gone : stands (len - 1) codes' places' first ≡ false =
      elim (cases_Bool (stands (len - 1) codes' places' first))
      [ inl t ↦ absurd ((old first ((D first).0 t)).1 refl) | inr f ↦ f ] in
      set_made (waits_at len keys codes places) (waits_at (len - 1) keys codes' places') cap cap first None None refl (found 0 pos).0
      (cond-false (stands (len - 1) codes' places' first) (slice_get keys first) None gone)
      (λ x l ne. same_at keys keys len (len - 1) cap codes codes' places places' x found remove_found refl (λ m. (old x m).0) (new x ne))
