-- The steps of a heap keep its order. Assumes nothing.
use Rattle.std.proofs.Common.{◌≡◌, ℕ, ◌+◌, ◌/◌, ◌<◌, ◌≤◌, Bool, true, false, ◌⊎◌, length, get_or, sym, ap, ◌∙◌, subst, inl, inr, arith}
use Rattle.std.specs.List.{swap}
use Rattle.std.proofs.lemmas.List.Edits.{Swapped, swapped_from_swap}
use Rattle.std.proofs.lemmas.Bool.{cases_eq, cases_lt}
use Rattle.network.specs.Costs.{Kind, Laws}
use Rattle.heap.specs.declared.Heap.{Heap}
use Rattle.heap.specs.Heaps.{before, parent, Good}
use Rattle.heap.specs.Sifts.{Tells, Kept, OrderedButAt, OrderedButUnder, Over, ButAt, ButUnder, Chosen, LeastChild}
use Rattle.heap.proofs.Order.{before_irrefl, before_asym, before_trans, before_cotrans}
use Rattle.heap.proofs.Tree.{risen, sunk, but_up, over_up, but_down, over_down}

-- the code at a place
abbrev pub at_place : {K : Type 0} → Heap K → ℕ → ℕ
at_place h k = get_or h.codes.now k 0

swapped : {K : Type 0} (h g : Heap K) (i j : ℕ) → i < h.len → j < h.len → g.codes.now ≡ swap h.codes.now i j → Swapped (at_place h) (at_place g) i j
swapped h g i j li lj e =
    let w = h.within in
    let r : h.cap ≤ length h.codes.now = h.room.2 in
    swapped_from_swap h.codes.now g.codes.now i j 0 (omega arith) (omega arith) e

-- a place has two under it
pub two_under : (at k : ℕ) → 0 < k → parent k ≡ at → (k ≡ at + at + 1) ⊎ (k ≡ at + at + 1 + 1)
two_under at k p e =
    elim (cases_eq k (at + at + 1)) [ inl q ↦ inl q | inr n ↦ inr (omega arith) ]

module _ {K : Type 0} {kind : Kind K} (laws : Laws kind) where
  abbrev below : K → K → Bool
  below = kind.below

  pub rise_step : (h g : Heap K) (at : ℕ) → 0 < at → at < h.len → g.codes.now ≡ swap h.codes.now at (parent at) → Kept h g → Tells below h.keys.now (at_place h at) (at_place h (parent at)) true → ButAt below h at → ButAt below g (parent at)
  rise_step h g at pos inside e kept less but d =
      let u = before below h.keys.now d in
      let S = swapped h g at (parent at) inside (omega arith) e in
      let asym = before_asym laws h.keys.now d in
      let tr = before_trans laws h.keys.now d in
      let co = before_cotrans laws h.keys.now d in
      subst (λ ks. OrderedButAt (before below ks d) g.len (at_place g) (parent at) × Over (before below ks d) g.len (at_place g) (parent at)) (sym kept.keys)
      (subst (λ n. OrderedButAt u n (at_place g) (parent at) × Over u n (at_place g) (parent at)) (sym kept.lens) (
        but_up u asym tr co (at_place h) (at_place g) h.len at pos inside S (sym (less d)) (but d).0 (but d).1,
        over_up u asym tr co (at_place h) (at_place g) h.len at pos inside S (sym (less d)) (but d).0 (but d).1,
      ))

  -- the same, where the place over it goes by another name
  pub rise_by : (h g : Heap K) (at up : ℕ) → up ≡ parent at → 0 < at → at < h.len → g.codes.now ≡ swap h.codes.now at up → Kept h g → Tells below h.keys.now (at_place h at) (at_place h up) true → ButAt below h at → ButAt below g up
  rise_by h g at up is pos inside e kept less but =
      subst (λ u. g.codes.now ≡ swap h.codes.now at u → Tells below h.keys.now (at_place h at) (at_place h u) true → ButAt below g u) (sym is)
      (λ e' less'. rise_step h g at pos inside e' kept less' but) e less

  pub sink_step : (h g : Heap K) (at down : ℕ) → LeastChild below h at down → g.codes.now ≡ swap h.codes.now at down → Kept h g → Tells below h.keys.now (at_place h down) (at_place h at) true → ButUnder below h at → ButUnder below g down
  sink_step h g at down child e kept less but d =
      let u = before below h.keys.now d in
      let after = child.after in
      let inside = child.inside in
      let S = swapped h g at down (omega arith) inside e in
      let asym = before_asym laws h.keys.now d in
      let tr = before_trans laws h.keys.now d in
      let co = before_cotrans laws h.keys.now d in
      subst (λ ks. OrderedButUnder (before below ks d) g.len (at_place g) down × Over (before below ks d) g.len (at_place g) down) (sym kept.keys)
      (subst (λ n. OrderedButUnder u n (at_place g) down × Over u n (at_place g) down) (sym kept.lens) (
        but_down u asym tr co (at_place h) (at_place g) h.len at down after inside child.under S (sym (less d)) (child.least d) (but d).0 (but d).1,
        over_down u asym tr co (at_place h) (at_place g) h.len at down after inside child.under S (sym (less d)) (child.least d) (but d).0 (but d).1,
      ))

  -- the code at `at` does not come before the one over it
  pub rise_end : (h : Heap K) (at : ℕ) → ButAt below h at → (0 < at → Tells below h.keys.now (at_place h at) (at_place h (parent at)) false) → Good below h
  rise_end h at but here = record {
    ordered = λ d. risen (before below h.keys.now d) h.len at (at_place h) (but d).0 (λ pos. sym (here pos d));
  }

  -- no code under `at` comes before it
  pub sink_leaf : (h : Heap K) (at : ℕ) → ButUnder below h at → h.len / 2 ≤ at → Good below h
  sink_leaf h at but leaf = record {
    ordered = λ d. sunk (before below h.keys.now d) h.len at (at_place h) (but d).0 (λ k p l q. absurd (omega arith));
  }

  pub sink_end : (h : Heap K) (at down : ℕ) → ButUnder below h at → LeastChild below h at down → Tells below h.keys.now (at_place h down) (at_place h at) false → Good below h
  sink_end h at down but child more = record {
    ordered = λ d. sunk (before below h.keys.now d) h.len at (at_place h) (but d).0
        (λ k p l q. before_cotrans laws h.keys.now d (at_place h k) (at_place h down) (at_place h at) (child.least d k p l q) (sym (more d)));
  }

  pub left_least : (h : Heap K) (at : ℕ) → at + at + 1 < h.len → (at + at + 1 + 1 < h.len → Tells below h.keys.now (at_place h (at + at + 1 + 1)) (at_place h (at + at + 1)) false) → LeastChild below h at (at + at + 1)
  left_least h at lt more = record {
    inside = lt;
    under = omega arith;
    after = omega arith;
    least = λ d k p l q.
        let u = before below h.keys.now d in
        elim (two_under at k p q) [
          | inl e ↦ ap (λ i. u (at_place h i) (at_place h (at + at + 1))) e ∙ before_irrefl laws h.keys.now d (at_place h (at + at + 1))
          | inr e ↦ ap (λ i. u (at_place h i) (at_place h (at + at + 1))) e ∙ sym (more (omega arith) d)
        ];
  }

  pub right_least : (h : Heap K) (at : ℕ) → at + at + 1 + 1 < h.len → Tells below h.keys.now (at_place h (at + at + 1 + 1)) (at_place h (at + at + 1)) true → LeastChild below h at (at + at + 1 + 1)
  right_least h at lt less = record {
    inside = lt;
    under = omega arith;
    after = omega arith;
    least = λ d k p l q.
        let u = before below h.keys.now d in
        let right = at_place h (at + at + 1 + 1) in
        elim (two_under at k p q) [
          | inl e ↦ ap (λ i. u (at_place h i) right) e ∙ before_asym laws h.keys.now d right (at_place h (at + at + 1)) (sym (less d))
          | inr e ↦ ap (λ i. u (at_place h i) right) e ∙ before_irrefl laws h.keys.now d right
        ];
  }

  -- the chosen one of two codes is the least
  pub chosen_least : (h : Heap K) (at r : ℕ) → at + at + 1 < h.len → Chosen below h at r → LeastChild below h at r
  chosen_least h at r lt chosen =
      let low = chosen.from in
      let high = chosen.to in
      let inside = chosen.inside in
      elim (cases_lt r (at + at + 1 + 1)) [
        | inl l ↦
            let e : r ≡ at + at + 1 = omega arith in
            subst (LeastChild below h at) (sym e) (left_least h at lt (λ more d. sym (chosen.left d l more)))
        | inr ge ↦
            let e : r ≡ at + at + 1 + 1 = omega arith in
            subst (LeastChild below h at) (sym e) (right_least h at (omega arith) (λ d. sym (chosen.right d (omega arith))))
      ]
