-- The first code of a heap has the least key, and is the least code at it. Assumes nothing.
use Rattle.std.proofs.Common.{◌≡◌, ℕ, ◌<◌, ◌≤◌, Bool, true, ◌⊎◌, List, [], ◌∷◌, length, get_or, set, Some, None, Option, sym, refl, ap, ◌∙◌, subst, inl, inr, arith}
use Rattle.std.specs.List.{slice_get}
use Rattle.std.proofs.lemmas.List.{get_or_past}
use Rattle.std.proofs.lemmas.Option.{slice_get-get_or}
use Rattle.std.proofs.lemmas.Bool.{cases_Bool, cases_lt, cond-true, cond-false}
use Rattle.network.specs.Costs.{Kind, Laws}
use Rattle.network.proofs.Order.{le_eq, weaken}
use Rattle.heap.specs.declared.Heap.{Heap}
use Rattle.heap.specs.Heaps.{heap_waits, waits_at, before, Good}
use Rattle.heap.specs.Places.{stands}
use Rattle.heap.specs.Sifts.{Top}
use Rattle.queue.specs.Waits.{FirstLeast, Least, taken}
use Rattle.heap.proofs.Order.{no, before_irrefl, before_asym, before_trans, before_cotrans}
use Rattle.queue.proofs.Scan.{none≢some, some_within, first_unique}
use Rattle.heap.proofs.Stands.{Among, stands_decides, at_waits, length_waits, none_at}
use Rattle.heap.proofs.Tree.{first}

pub none_least : {K : Type 0} (below : K → K → Bool) (h : Heap K) → h.len ≡ 0 → Least below (heap_waits h) None
none_least below h e d =
    elim (cases_lt d h.cap) [
      | inl lt ↦ at_waits h d lt ∙ ap (λ n. waits_at n h.keys.now h.codes.now h.places.now d) e ∙ none_at h.keys.now h.codes.now h.places.now d
      | inr ge ↦ get_or_past (heap_waits h) d None (omega (arith, length_waits h))
    ]

-- what waits stands at a place, and has its key
waits_there : {K : Type 0} (h : Heap K) (d : ℕ) (j : K) → get_or (heap_waits h) d None ≡ Some j → Among h.len h.codes.now d × (slice_get h.keys.now d ≡ Some j) × (d < h.cap)
waits_there h d j e =
    let in_List = some_within (heap_waits h) d j e in
    let lt : d < h.cap = omega (arith, length_waits h) in
    let here = stands h.len h.codes.now h.places.now d in
    let w = sym (at_waits h d lt) ∙ e in
    elim (cases_Bool (stands h.len h.codes.now h.places.now d)) [
      | inl t ↦ (
        (stands_decides h.len h.cap h.codes.now h.places.now h.found d).0 t,
        sym (cond-true here (slice_get h.keys.now d) None t) ∙ w,
        lt,
      )
      | inr f ↦ none≢some (sym (cond-false here (slice_get h.keys.now d) None f) ∙ w)
    ]

pub first_least : {K : Type 0} {kind : Kind K} → Laws kind → (h : Heap K) (k : K) → Good kind.below h → 0 < h.len → slice_get h.keys.now (get_or h.codes.now 0 0) ≡ Some k → FirstLeast kind.below (heap_waits h) k (get_or h.codes.now 0 0)
first_least {kind = kind} laws h k good pos key =
    let below = kind.below in
    let keys = h.keys.now in
    let codes = h.codes.now in
    let places = h.places.now in
    let c = get_or codes 0 0 in
    let u = before below keys k in
    let found = h.found in
    let lt : get_or codes 0 0 < h.cap = (found 0 pos).0 in
    let here : stands h.len codes places (get_or codes 0 0) ≡ true = (stands_decides h.len h.cap codes places found (get_or codes 0 0)).1 (0, pos, refl) in
    let room = h.room.1 in
    let key-c : get_or keys (get_or codes 0 0) k ≡ k = let e = slice_get-get_or keys (get_or codes 0 0) k (omega arith) in cc in
    let not-before : (d : ℕ) (j : _) → get_or (heap_waits h) d None ≡ Some j → (below k j ≡ true) ⊎ ((j ≡ k) × (get_or codes 0 0 ≤ d)) =
    λ d j e.
    let w = waits_there h d j e in
    let m = w.0 in
    let key-d : get_or keys d k ≡ j = let f = slice_get-get_or keys d k (omega (arith, w.2)) in let g = w.1 in cc in
    let old = first u (before_asym laws keys k) (before_trans laws keys k) (before_cotrans laws keys k) h.len (λ i. get_or codes i 0) (before_irrefl laws keys k (get_or codes 0 0)) (good.ordered k) m.0 m.1 in
    elim (no laws keys k d (get_or codes 0 0) (ap (λ x. u x (get_or codes 0 0)) (sym m.2) ∙ old))
    [ inl p ↦ inl (cc) | inr q ↦ inr (sym key-d ∙ q.0 ∙ key-c, q.1) ] in
    record {
      waits = at_waits h (get_or codes 0 0) lt ∙ cond-true (stands h.len codes places (get_or codes 0 0)) (slice_get keys (get_or codes 0 0)) None here ∙ key;
      none_below = λ d j e. elim (not-before d j e) [ inl p ↦ weaken laws k j p | inr q ↦ le_eq laws (sym q.0) ];
      first = λ d j l e. elim (not-before d j e) [ inl p ↦ p | inr q ↦ absurd (omega (arith, q.1)) ];
    }

-- some code stands first where some code waits
pub some_first : {K : Type 0} (h : Heap K) (k : K) (c : ℕ) → get_or (heap_waits h) c None ≡ Some k → 0 < h.len
some_first h k c e = let m = (waits_there h c k e).0 in omega (arith, m.1)

-- the least code at the least key is the one that stands first
pub first_code : {K : Type 0} {kind : Kind K} → Laws kind → (h : Heap K) (k : K) (c : ℕ) → Good kind.below h → FirstLeast kind.below (heap_waits h) k c → get_or h.codes.now 0 0 ≡ c
first_code {kind = kind} laws h k c good least =
    let pos = some_first h k c least.waits in
    let lt = (h.found 0 pos).0 in
    let room = h.room.1 in
    let key = slice_get-get_or h.keys.now (get_or h.codes.now 0 0) k (omega arith) in
    first_unique kind.below (heap_waits h) _ k (get_or h.codes.now 0 0) c (first_least laws h (get_or h.keys.now (get_or h.codes.now 0 0) k) good pos key) least

-- the first code and its key are the least
pub top_least : {K : Type 0} {kind : Kind K} → Laws kind → (h : Heap K) → Good kind.below h → (r : Option (K × ℕ)) → Top h r → Least kind.below (heap_waits h) r
top_least {kind = kind} laws h good None e = none_least kind.below h e
top_least {kind = kind} laws h good (Some p) t =
    subst (λ x. FirstLeast kind.below (heap_waits h) p.0 x) t.1
    (first_least laws h p.0 good t.0 (ap (slice_get h.keys.now) t.1 ∙ t.2))

-- a place of a list holds something
nth_holds : {X : Type 0} (xs : List X) (i : ℕ) → i < length xs → slice_get xs i ≡ None → ⊥
nth_holds [] i lt e = omega arith
nth_holds (x ∷ xs) i lt e = none≢some (sym e ∙ slice_get-get_or (x ∷ xs) i x lt)

-- some code waits where one stands first
first_waits : {K : Type 0} (h : Heap K) → 0 < h.len → get_or (heap_waits h) (get_or h.codes.now 0 0) None ≡ None → ⊥
first_waits h pos none =
    let keys = h.keys.now in
    let codes = h.codes.now in
    let places = h.places.now in
    let lt : get_or codes 0 0 < h.cap = (h.found 0 pos).0 in
    let here : stands h.len codes places (get_or codes 0 0) ≡ true = (stands_decides h.len h.cap codes places h.found (get_or codes 0 0)).1 (0, pos, refl) in
    let room = h.room.1 in
    nth_holds keys (get_or codes 0 0) (omega arith)
    (sym (cond-true (stands h.len codes places (get_or codes 0 0)) (slice_get keys (get_or codes 0 0)) None here) ∙ sym (at_waits h (get_or codes 0 0) lt) ∙ none)

-- to take the least pair is to take the first code
pub taken_first : {K : Type 0} {kind : Kind K} → Laws kind → (h : Heap K) → Good kind.below h → 0 < h.len → (r : Option (K × ℕ)) → Least kind.below (heap_waits h) r → set (heap_waits h) (get_or h.codes.now 0 0) None ≡ taken (heap_waits h) r
taken_first laws h good pos None least = absurd (first_waits h pos (least (get_or h.codes.now 0 0)))
taken_first laws h good pos (Some p) least = ap (λ x. set (heap_waits h) x None) (first_code laws h p.0 p.1 good least)

-- where no code stands, none is taken
pub taken_none : {K : Type 0} (below : K → K → Bool) (h : Heap K) → h.len ≤ 0 → (r : Option (K × ℕ)) → Least below (heap_waits h) r → heap_waits h ≡ taken (heap_waits h) r
taken_none below h empty None least = refl
taken_none below h empty (Some p) least = let pos = some_first h p.0 p.1 least.waits in absurd (omega arith)
