-- The front of a search bounds what is not settled. Assumes nothing.
use Rattle.std.proofs.Common.{◌≡◌, ℕ, ◌^◌, ◌<◌, false, ◌≢◌, ◌⊎◌, None, sym, ◌∙◌, inl, inr}
use native.Mathlib.Decide.{ℕ_discrete}
use lib.Bits.{bit_and, bit_or, or_comm}
use Rattle.network.specs.Costs.{Kind, Laws}
use Rattle.network.specs.Layouts.{Layout, Link}
use Rattle.network.specs.Bounds.{others, placed, Lawful}
use Rattle.theory.specs.Derivations.{Deriv, outlet, step, fork}
use Rattle.theory.specs.Search.{Table, Settled, Waiting, Known, Searched, Sound, Next, Turn, Starts}
use Rattle.network.proofs.Order.{le_trans, le_eq, mono, mono_l, mono_r, left_comm, cancel}
use Rattle.theory.proofs.Masks.{apart_comm}
use Rattle.theory.proofs.Paths.{same_some, no_some}
use Rattle.theory.proofs.Drawing.{deriv_below}
use Rattle.theory.proofs.Bounding.{over, with_more}

module _ {K : Type 0} {kind : Kind K} (laws : Laws kind) {l : Layout K} {t : Table K} {h : ℕ → ℕ → K} (inv : Searched kind l t) (law : Lawful kind l h) where
  open kind use {zero, plus, below}

  infix 40 ◌⊑◌
  abbrev ◌⊑◌ : K → K → Type 0
  a ⊑ b = below b a ≡ false

  abbrev D : ℕ → ℕ → K → Type 0
  D v I c = Deriv kind l v I c

  -- some label waits that costs, with the bound added, no more than (v, I) at c
  abbrev Ahead : ℕ → ℕ → K → Type 0
  Ahead v I c = (w J : ℕ) × (m : K) × Waiting t w J m × (plus m (h w J) ⊑ plus c (h v I))

  abbrev Either : ℕ → ℕ → K → Type 0
  Either v I c = ((m : K) × Settled t v I m) ⊎ Ahead v I c

  known : {v I : ℕ} {m c : K} → m ⊑ c → Known kind t v I m → Either v I c
  known {v} {I} {m} {c} le k = pick k.has
    where
      pick : Settled t v I k.cost ⊎ Waiting t v I k.cost → Either v I c
      pick (inl s) = inl (k.cost, s)
      pick (inr w) = inr (v, I, k.cost, w, mono_l laws _ _ (h v I) (le_trans laws _ _ _ k.within le))

  over_run : {v w I i : ℕ} {c k : K} → Link l i v w k → D w I c → Either w I c → Either v I (plus c k)
  over_run {v} {w} {I} {i} {c} {k} j d (inl s) = known (mono_l laws _ _ k (inv.cheapest w I s.0 c s.1 d)) (inv.runs v w I i s.0 k s.1 j)
  over_run {v} {w} {I} {i} {c} {k} j d (inr q) =
      let e : plus c (plus (h v I) k) ≡ plus (plus c k) (h v I) = simp (laws.assoc, laws.comm) in
      inr (q.0, q.1, q.2, q.3, le_trans laws _ _ _ q.4 (le_trans laws _ _ _ (mono_r laws _ _ c (over laws law (deriv_below d) j)) (le_eq laws e)))

  joined : {v I J : ℕ} {c d : K} → bit_and I J ≡ 0 → D v I c → D v J d → Either v I c → Either v J d → Either v (bit_or I J) (plus c d)
  joined {v} {I} {J} {c} {d} a x y (inl s) (inl r) =
      known (mono laws _ _ _ _ (inv.cheapest v I s.0 c s.1 x) (inv.cheapest v J r.0 d r.1 y)) (inv.forks v I J s.0 r.0 s.1 r.1 a)
  joined {v} {I} {J} {c} {d} a x y (inr q) r =
      let e : plus c (plus (h v (bit_or I J)) d) ≡ plus (plus c d) (h v (bit_or I J)) = simp (laws.assoc, laws.comm) in
      inr (q.0, q.1, q.2, q.3, le_trans laws _ _ _ q.4 (le_trans laws _ _ _ (mono_r laws _ _ c (with_more laws law (deriv_below (fork a x y)) y)) (le_eq laws e)))
  joined {v} {I} {J} {c} {d} a x y (inl s) (inr q) =
      let b = apart_comm I J a in
      let e : plus d (plus (h v (bit_or J I)) c) ≡ plus (plus c d) (h v (bit_or I J)) = rw (or_comm J I) (simp (laws.assoc, laws.comm, left_comm laws)) in
      inr (q.0, q.1, q.2, q.3, le_trans laws _ _ _ q.4 (le_trans laws _ _ _ (mono_r laws _ _ d (with_more laws law (deriv_below (fork b y x)) x)) (le_eq laws e)))

  either : {v I : ℕ} {c : K} → D v I c → Either v I c
  either (outlet i b) = known (laws.irrefl zero) (inv.outlets i b)
  either (step j d) = over_run j d (either d)
  either (fork a x y) = joined a x y (either x) (either y)

  pub front : (v I : ℕ) (c : K) → t.settled v I ≡ None → Deriv kind l v I c
      → (w J : ℕ) × (m : K) × Waiting t w J m × (below (plus c (h v I)) (plus m (h w J)) ≡ false)
  front v I c unsettled d = pick (either d)
    where
      pick : Either v I c → Ahead v I c
      pick (inl s) = absurd (no_some _ _ unsettled s.1)
      pick (inr q) = q

  pub settles : (v I : ℕ) (c : K) → Next kind h t v I c → (d : K) → Deriv kind l v I d → below d c ≡ false
  settles v I c next d x =
      let q = front v I d next.waits.0 x in
      cancel laws _ _ (h v I) (le_trans laws _ _ _ (next.least q.0 q.1 q.2 q.3) q.4)

  module _ {t' : Table K} (v I : ℕ) (c : K) (next : Next kind h t v I c) (turn : Turn kind l t t' v I c) where
    apart_from : {u J : ℕ} {m : K} → Settled t u J m → Dec (u ≡ v) → Dec (J ≡ I) → (u ≢ v) ⊎ (J ≢ I)
    apart_from s (no a) e = inl a
    apart_from s (yes a) (no b) = inr b
    apart_from {u} {J} {m} s (yes a) (yes b) = absurd (no_some (t.settled v I) m next.waits.0 (rw (a, b) at s))

    kept : (u J : ℕ) (m : K) → Settled t u J m → Settled t' u J m
    kept u J m s = turn.leaves_others u J (apart_from s (ℕ_discrete u v) (ℕ_discrete J I)) ∙ s

    lift : {u J : ℕ} {m : K} → Known kind t u J m → Known kind t' u J m
    lift {u} {J} {m} k = pick k.has
      where
        pick : Settled t u J k.cost ⊎ Waiting t u J k.cost → Known kind t' u J m
        pick (inl s) = record { cost = k.cost; has = inl (kept u J k.cost s); within = k.within }
        pick (inr w) = let q = turn.holds_waiting u J k.cost w in record { cost = q.cost; has = q.has; within = le_trans laws _ _ _ q.within k.within }

    -- settled before, or by this turn
    abbrev New : ℕ → ℕ → K → Type 0
    New u J m = Settled t u J m ⊎ ((u ≡ v) × (J ≡ I) × (m ≡ c))

    new : (u J : ℕ) (m : K) → Settled t' u J m → New u J m
    new u J m s = look (ℕ_discrete u v) (ℕ_discrete J I)
      where
        look : Dec (u ≡ v) → Dec (J ≡ I) → New u J m
        look (no a) e = inl (sym (turn.leaves_others u J (inl a)) ∙ s)
        look (yes a) (no b) = inl (sym (turn.leaves_others u J (inr b)) ∙ s)
        look (yes a) (yes b) = inr (a, b, same_some (sym (rw (a, b) at s) ∙ turn.settles))

    along : (u w J i : ℕ) (m k : K) → Link l i u w k → New w J m → Known kind t' u J (plus m k)
    along u w J i m k j (inl s) = lift (inv.runs u w J i m k s j)
    along u w J i m k j (inr e) = rw (e.1, e.2) (turn.tries_runs u i k (rw e.0 at j))

    join : (u J L : ℕ) (m n : K) → Settled t' u J m → Settled t' u L n → bit_and J L ≡ 0 → New u J m → New u L n → Known kind t' u (bit_or J L) (plus m n)
    join u J L m n s r a (inl x) (inl y) = lift (inv.forks u J L m n x y a)
    join u J L m n s r a (inr e) y = rw (e.0, e.1, e.2) (turn.tries_forks L n (rw e.0 at r) (rw e.1 at a))
    join u J L m n s r a (inl x) (inr e) =
        rw (e.0, e.1, e.2, or_comm J I, laws.comm m c) (turn.tries_forks J m (rw e.0 at s) (apart_comm J I (rw e.1 at a)))

    cheap : (u J : ℕ) (m d : K) → D u J d → New u J m → m ⊑ d
    cheap u J m d x (inl s) = inv.cheapest u J m d s x
    cheap u J m d x (inr e) = rw e.2 (settles v I c next d (rw (e.0, e.1) at x))

    pub turn_keeps : Searched kind l t'
    turn_keeps = record {
      outlets = λ i b. lift (inv.outlets i b);
      runs = λ u w J i m k s j. along u w J i m k j (new w J m s);
      forks = λ u J L m n s r a. join u J L m n s r a (new u J m s) (new u L n r);
      cheapest = λ u J m d s x. cheap u J m d x (new u J m s);
    }

module _ {K : Type 0} {kind : Kind K} (laws : Laws kind) {l : Layout K} {t : Table K} (start : Starts kind l t) where
  outlet_at : {v I : ℕ} {c : K} (i : ℕ) → i < others l → v ≡ placed l i → I ≡ 2 ^ i → c ≡ kind.zero → Deriv kind l v I c
  outlet_at i b p q r = rw (p, q, r) (outlet i b)

  pub begins : Searched kind l t × Sound kind l t
  begins = (
    record {
      outlets = λ i b. record { cost = kind.zero; has = inr (start.unsettled _ _, start.outlets i b); within = laws.irrefl _ };
      runs = λ v w I i c k s j. absurd (no_some _ _ (start.unsettled w I) s);
      forks = λ v I J c d s r a. absurd (no_some _ _ (start.unsettled v I) s);
      cheapest = λ v I c d s x. absurd (no_some _ _ (start.unsettled v I) s);
    },
    λ v I c h. elim h [
      | inl s ↦ absurd (no_some _ _ (start.unsettled v I) s)
      | inr r ↦ (let q = start.no_others v I c r in outlet_at q.place q.within q.junction q.set q.cost)
    ],
  )
