-- What joins outlets decomposes into a derivation. Assumes nothing.
use Rattle.std.proofs.Common.{◌≡◌, ℕ, zero as none_left, suc, ◌+◌, ◌-◌, ◌*◌, ◌^◌, ◌<◌, ◌≤◌, false, ◌≢◌, ◌⊎◌, List, [], ◌∷◌, length, Some, None, Option, sym, refl, ap, ◌∙◌, subst, ap₂, subst₂, inl, inr, arith}
use native.Mathlib.Decide.{dec_lt}
use lib.Bits.{bit_and, bit_or, or_zero_l, or_zero_r, and_zero_l, and_zero_r, or_shifted, and_shifted}
use Rattle.network.specs.declared.run.Run.{Run}
use Rattle.network.specs.Costs.{Kind, Laws}
use Rattle.network.specs.Layouts.{Layout, open_run, Link, Member, cost_of_run, cost_of, Path, stay}
use Rattle.network.specs.Bounds.{others, placed, sets, Has}
use Rattle.theory.specs.Derivations.{Connects, Deriv, outlet, step, fork}
use Rattle.network.proofs.Order.{le_trans, le_eq, mono, mono_l, mono_r, unit_r, left_comm, le_plus, le_plus_l, plus_swap}
use Rattle.theory.proofs.Paths.{on, back, through, without, along, against, run_link, path_nil, link_back, one_way, shut, dec_path, inside, inside_path, inside_short, not_dec, sides}
use Rattle.theory.proofs.Masks.{or_swap, apart_comm, apart_or, apart_left, apart_right, has_top, has_or_right}

module _ {C : Type 0} {kind : Kind C} (laws : Laws kind) (l : Layout C) where
  open kind use {zero, plus, below}

  infix 40 ◌⊑◌
  abbrev ◌⊑◌ : C → C → Type 0
  a ⊑ b = below b a ≡ false

  abbrev D : ℕ → ℕ → C → Type 0
  D v I c = Deriv kind l v I c

  abbrev total : List ℕ → C
  total S = cost_of kind l S

  -- derivations at junctions where P holds, of sets with nothing in common: their union and their cost in all
  data Bundle (P : ℕ → Type 0) : ℕ → C → Type 0 where
    none : Bundle P 0 zero
    one : {p K : ℕ} {c : C} → P p → D p K c → Bundle P K c
    both : {K L : ℕ} {c d : C} → bit_and K L ≡ 0 → Bundle P K c → Bundle P L d → Bundle P (bit_or K L) (plus c d)

  moved : {P Q : ℕ → Type 0} {K : ℕ} {c : C} → ((p : ℕ) → P p → Q p) → Bundle P K c → Bundle Q K c
  moved f none = none
  moved f (one a d) = one (f _ a) d
  moved f (both h a b) = both h (moved f a) (moved f b)

  -- the derivations at P, and those at Q
  record Parts (P Q : ℕ → Type 0) (I : ℕ) (m : C) : Type 0 where
    K : ℕ
    L : ℕ
    c : C
    d : C
    apart : bit_and K L ≡ 0
    whole : bit_or K L ≡ I
    sum : plus c d ≡ m
    first : Bundle P K c
    second : Bundle Q L d

  parts_both : {P Q : ℕ → Type 0} {I J : ℕ} {m n : C} → bit_and I J ≡ 0 → Parts P Q I m → Parts P Q J n → Parts P Q (bit_or I J) (plus m n)
  parts_both {P} {Q} {I} {J} h x y =
      let across : bit_and (bit_or x.K x.L) (bit_or y.K y.L) ≡ 0 = rw (x.whole, y.whole) h in
      let k-all = apart_left x.K x.L (bit_or y.K y.L) across in
      let l-all = apart_right x.K x.L (bit_or y.K y.L) across in
      let all-k = apart_comm _ _ k-all in
      let all-l = apart_comm _ _ l-all in
      let kk = apart_comm _ _ (apart_left y.K y.L x.K all-k) in
      let lk = apart_right y.K y.L x.K all-k in
      let kl = apart_left y.K y.L x.L all-l in
      let ll = apart_comm _ _ (apart_right y.K y.L x.L all-l) in
      record {
        K = bit_or x.K y.K;
        L = bit_or x.L y.L;
        c = plus x.c y.c;
        d = plus x.d y.d;
        apart = apart_or _ _ _ (apart_comm _ _ (apart_or _ _ _ (apart_comm _ _ x.apart) lk)) (apart_comm _ _ (apart_or _ _ _ (apart_comm _ _ kl) (apart_comm _ _ y.apart)));
        whole = or_swap x.K y.K x.L y.L ∙ ap₂ bit_or x.whole y.whole;
        sum = plus_swap laws x.c y.c x.d y.d ∙ ap₂ plus x.sum y.sum;
        first = both kk x.first y.first;
        second = both ll x.second y.second;
      }

  parts_one : {P Q : ℕ → Type 0} {p K : ℕ} {c : C} → P p ⊎ Q p → D p K c → Parts P Q K c
  parts_one {P} {Q} {p} {K} {c} (inl a) d = record { K = K; L = 0; c = c; d = zero; apart = and_zero_r K; whole = or_zero_r K; sum = unit_r laws c; first = one a d; second = none }
  parts_one {P} {Q} {p} {K} {c} (inr a) d = record { K = 0; L = K; c = zero; d = c; apart = and_zero_l K; whole = or_zero_l K; sum = laws.neutral c; first = none; second = one a d }

  parts : {P Q R : ℕ → Type 0} {I : ℕ} {m : C} → ((p : ℕ) → R p → P p ⊎ Q p) → Bundle R I m → Parts P Q I m
  parts f none = record { K = 0; L = 0; c = zero; d = zero; apart = and_zero_r 0; whole = or_zero_r 0; sum = unit_r laws zero; first = none; second = none }
  parts f (one a d) = parts_one (f _ a) d
  parts f (both h a b) = parts_both h (parts f a) (parts f b)

  -- no outlet, or a derivation of K at v that costs at most m
  abbrev Upto : ℕ → ℕ → C → Type 0
  Upto v K m = (K ≡ 0) ⊎ ((c : C) × D v K c × (c ⊑ m))

  upto_le : {v K : ℕ} {m n : C} → m ⊑ n → Upto v K m → Upto v K n
  upto_le h (inl e) = inl e
  upto_le h (inr q) = inr (q.0, q.1, le_trans laws _ _ _ q.2 h)

  upto_both : {v K L : ℕ} {m n : C} → bit_and K L ≡ 0 → Upto v K m → Upto v L n → Upto v (bit_or K L) (plus m n)
  upto_both h (inl e) (inl f) = inl (rw (e, f))
  upto_both {v} {K} {L} {m} {n} h (inl e) (inr q) =
      inr (q.0, rw (e, or_zero_l L) q.1, le_trans laws _ _ _ q.2 (le_trans laws _ _ _ (le_plus laws n m) (le_eq laws (laws.comm n m))))
  upto_both {v} {K} {L} {m} {n} h (inr q) (inl e) = inr (q.0, rw (e, or_zero_r K) q.1, le_trans laws _ _ _ q.2 (le_plus laws m n))
  upto_both h (inr q) (inr r) = inr (plus q.0 r.0, fork h q.1 r.1, mono laws _ _ _ _ q.2 r.2)

  -- with no run, all that is joined to v stands at v
  standing : {v K : ℕ} {c : C} → Bundle (λ p. v ≡ p) K c → Upto v K c
  standing none = inl refl
  standing (one e d) = inr (_, rw e d, laws.irrefl _)
  standing (both h a b) = upto_both h (standing a) (standing b)

  -- what the induction gives of n runs
  abbrev Done : ℕ → Type 0
  Done n = (S : List ℕ) → length S ≤ n → (v K : ℕ) (c : C) → Bundle (Path l S v) K c → Upto v K (plus (total S) c)

  sum_up : (near c₁ c₂ k far d s m : C) → c₂ ⊑ plus far d → plus far near ≡ s → plus c₁ d ≡ m → plus near (plus c₁ (plus c₂ k)) ⊑ plus (plus k s) m
  sum_up near c₁ c₂ k far d s m h p q =
      let e : plus near (plus c₁ (plus (plus far d) k)) ≡ plus (plus k (plus far near)) (plus c₁ d) = simp (laws.assoc, laws.comm, left_comm laws) in
      le_trans laws _ _ _ (mono_r laws _ _ near (mono_r laws _ _ c₁ (mono_l laws _ _ k h))) (le_eq laws (e ∙ ap₂ (λ x y. plus (plus k x) y) p q))

  -- the run from x to y leads on to what v does not reach without it
  cross : {n : ℕ} → Done n → (S : List ℕ) → length S ≤ n → {i x y v K : ℕ} {k c : C}
      → Link l i x y k → Path l S v x → ¬ Path l S v y → Parts (Path l S v) (Path l S y) K c → Upto v K (plus (plus k (total S)) c)
  cross {n} ih S short {i} {x} {y} {v} {K} {k} {c} j near far t =
      after (ih far_side (omega (arith, inside_short l reach S)) y t.L t.d (moved (λ p w. inside_path l reach closed w stay) t.second))
    where
      reach : (p : ℕ) → Dec (Path l S y p)
      reach p = dec_path S y p

      closed : (i u w : ℕ) (m : C) → Member i S → Link l i u w m → Path l S y u → Path l S y w
      closed i u w m s j a = on a (one_way s j)

      closed' : (i u w : ℕ) (m : C) → Member i S → Link l i u w m → ¬ Path l S y u → ¬ Path l S y w
      closed' i u w m s j a b = a (on b (one_way s (link_back j)))

      unreach : (p : ℕ) → Dec (¬ Path l S y p)
      unreach p = not_dec (reach p)

      far_side : List ℕ
      far_side = inside l reach S

      near_side : List ℕ
      near_side = inside l unreach S

      kept : (p : ℕ) → Path l S v p → Path l near_side v p
      kept p w = inside_path l unreach closed' w (λ q. far (back q))

      after : Upto y t.L (plus (total far_side) t.d) → Upto v K (plus (plus k (total S)) c)
      after (inl e) =
          upto_le (mono laws _ _ _ _ (le_plus_l laws k (total S)) (le_trans laws _ _ _ (le_plus laws t.c t.d) (le_eq laws t.sum)))
          (subst (λ i. Upto v i (plus (total S) t.c)) (sym (or_zero_r t.K) ∙ ap (bit_or t.K) (sym e) ∙ t.whole)
          (ih S short v t.K t.c t.first))
      after (inr q) =
          upto_le (sum_up (total near_side) t.c q.0 k (total far_side) t.d _ _ q.2 (sides l laws reach S) t.sum) (subst (λ i. Upto v i (plus (total near_side) (plus t.c (plus q.0 k)))) t.whole
          (ih near_side (omega (arith, inside_short l unreach S)) v (bit_or t.K t.L) (plus t.c (plus q.0 k))
          (both t.apart (moved kept t.first) (one (kept x near) (step j q.1)))))

  decompose : (n : ℕ) → Done n
  decompose n [] short v K c B = upto_le (le_eq laws (sym (laws.neutral c))) (standing (moved (λ p w. path_nil w) B))
  decompose none_left (h ∷ S) short v K c B = absurd (omega arith)
  decompose (suc n) (h ∷ S) short v K c B = by_run (open_run l h) refl (decompose n)
    where
      short' : length S ≤ n
      short' = omega arith

      -- the run h is of no use
      spare : (x : C) → Done n → ((p : ℕ) → Path l (h ∷ S) v p → Path l S v p) → Upto v K (plus (plus x (total S)) c)
      spare x ih f = upto_le (mono_l laws _ _ c (le_plus_l laws x (total S))) (ih S short' v K c (moved f B))

      look : (r : Run C) → open_run l h ≡ Some r → Done n → Dec (Path l S v r.a) → Dec (Path l S v r.b) → Upto v K (plus (plus r.cost (total S)) c)
      look r e ih (yes a) (yes b) = spare r.cost ih (λ p w. elim (through e w) [ without w ↦ w | along q r ↦ on b r | against q r ↦ on a r ])
      look r e ih (no a) (no b) = spare r.cost ih (λ p w. elim (through e w) [ without w ↦ w | along q r ↦ absurd (a q) | against q r ↦ absurd (b q) ])
      look r e ih (yes a) (no b) =
          cross ih S short' (run_link r e) a b
          (parts (λ p w. elim (through e w) [ without u ↦ inl u | along q r ↦ inr r | against q r ↦ absurd (b q) ]) B)
      look r e ih (no a) (yes b) =
          cross ih S short' (link_back (run_link r e)) b a
          (parts (λ p w. elim (through e w) [ without u ↦ inl u | along q r ↦ absurd (a q) | against q r ↦ inr r ]) B)

      by_run : (x : Option (Run C)) → open_run l h ≡ x → Done n → Upto v K (plus (plus (cost_of_run kind x) (total S)) c)
      by_run None e ih = spare zero ih (λ p w. shut e w)
      by_run (Some r) e ih = look r e ih (dec_path S v r.a) (dec_path S v r.b)

  -- the outlets of a set, each by itself
  alone : {P : ℕ → Type 0} (k I : ℕ) → k ≤ others l → I < 2 ^ k → ((i : ℕ) → i < k → Has I i → P (placed l i)) → Bundle P I zero
  alone {P} none_left I within small f = let e : 0 ≡ I = omega arith in subst (λ i. Bundle P i zero) e none
  alone {P} (suc k) I within small f = look (dec_lt I (2 ^ k)) (alone k)
    where
      r : ℕ
      r = I - 2 ^ k

      look : Dec (I < 2 ^ k) → ((I : ℕ) → k ≤ others l → I < 2 ^ k → ((i : ℕ) → i < k → Has I i → P (placed l i)) → Bundle P I zero) → Bundle P I zero
      look (yes h) ih = ih I (omega arith) h (λ i b m. f i (omega arith) m)
      look (no h) ih =
          let low : r < 2 ^ k = omega arith in
          let sum : 1 * 2 ^ k + r ≡ I = omega arith in
          let e : bit_or (1 * 2 ^ k) r ≡ I = or_shifted 1 k r low ∙ sum in
          let bare : 1 * 2 ^ k ≡ 2 ^ k = omega arith in
          let top : D (placed l k) (1 * 2 ^ k) zero = rw bare (outlet k within) in
          subst₂ (Bundle P) e (unit_r laws zero)
          (both (and_shifted 1 k r low)
          (one {p = placed l k} (f k (omega arith) (subst (λ x. Has x k) sum (has_top k r low))) top)
          (ih r (omega arith) low (λ i b m. f i (omega arith) (subst (λ x. Has x i) e (has_or_right (1 * 2 ^ k) r i m)))))

  -- paths from v to the outlets of I are enough
  pub from_paths : (S : List ℕ) (v I : ℕ) → I ≢ 0 → I < sets l → ((i : ℕ) → i < others l → Has I i → Path l S v (placed l i))
      → (c : C) × Deriv kind l v I c × (below (total S) c ≡ false)
  from_paths S v I ne small f = finish (decompose (length S) S (omega arith) v I zero (alone (others l) I (omega arith) small f))
    where
      finish : Upto v I (plus (total S) zero) → (c : C) × D v I c × (c ⊑ total S)
      finish (inl e) = absurd (ne e)
      finish (inr q) = (q.0, q.1, le_trans laws _ _ _ q.2 (le_eq laws (unit_r laws (total S))))

  pub decomposes : (S : List ℕ) (v I : ℕ) → I ≢ 0 → I < sets l → Connects l S v I
      → (c : C) × Deriv kind l v I c × (below (total S) c ≡ false)
  decomposes S v I ne small joins =
      from_paths S v I ne small (λ i b h. joins v (placed l i) (inl refl) (inr (record { place = i; within = b; has = h; is = refl })))

  -- a derivation at the far end of a path can be led along it, at no more than the runs cost
  pub led : (S : List ℕ) {v w I : ℕ} {c : C} → I ≢ 0 → Path l S v w → Deriv kind l w I c
      → (m : C) × Deriv kind l v I m × (below (plus (total S) c) m ≡ false)
  led S {v} {w} {I} {c} ne p d = finish (decompose (length S) S (omega arith) v I c (one p d))
    where
      finish : Upto v I (plus (total S) c) → (m : C) × D v I m × (m ⊑ plus (total S) c)
      finish (inl e) = absurd (ne e)
      finish (inr q) = q
