-- The least cost of a derivation is the Dreyfus–Wagner cost. Assumes nothing.
use Rattle.std.proofs.Common.{◌≡◌, ℕ, zero as no_more, suc, ◌^◌, ◌<◌, false, ◌⊎◌, List, [], ◌∷◌, sym, refl, ap, ◌∙◌, subst, ap₂, inl, inr, arith}
use lib.Bits.{bit_and, bit_or, or_comm}
use Rattle.std.proofs.lemmas.Nat.{pow_below, pow_pos}
use Rattle.network.specs.Costs.{Kind, Laws}
use Rattle.network.specs.Layouts.{Layout, open_run, Link, Member, here, OpenSet, cost_of, Path, stay, go, Distance}
use Rattle.network.specs.Bounds.{others, placed, sets}
use Rattle.theory.specs.Derivations.{Deriv, outlet, step, fork, Cheapest}
use Rattle.theory.specs.DreyfusWagner.{Split, Recurs, single, several, Rounds, DreyfusWagner}
use Rattle.network.proofs.Order.{le_trans, le_eq, mono, left_comm, cancel, cancel_l}
use Rattle.theory.proofs.Masks.{apart_comm, has_single, has_self, part_below, not_split, same_place}
use Rattle.theory.proofs.Paths.{longer, wider}
use Rattle.theory.proofs.Sets.{IsOpen, behead, gather, gather_same, gather_open, set_within}
use Rattle.theory.proofs.Decompose.{from_paths, led}
use Rattle.theory.proofs.Drawing.{connects, link_cost, deriv_some, deriv_below}
use Rattle.theory.proofs.Optimal.{cheapest_least}

-- a walk from v to w at the cost x
data Walk {K : Type 0} (kind : Kind K) (l : Layout K) : ℕ → ℕ → K → Type 0 where
  rest : {v : ℕ} → Walk kind l v v kind.zero
  onward : {v u w i : ℕ} {x k : K} → Link l i v u k → Walk kind l u w x → Walk kind l v w (kind.plus x k)

-- a derivation of (v, I) at c that walks from v to a fork
record Branch {K : Type 0} (kind : Kind K) (l : Layout K) (v I : ℕ) (c : K) : Type 0 where
  w : ℕ
  A : ℕ
  B : ℕ
  way : K
  a : K
  b : K
  apart : bit_and A B ≡ 0
  whole : bit_or A B ≡ I
  walk : Walk kind l v w way
  left : Deriv kind l w A a
  right : Deriv kind l w B b
  sum : c ≡ kind.plus way (kind.plus a b)

module _ {K : Type 0} {kind : Kind K} {l : Layout K} where
  walked : {v w : ℕ} {x : K} → Walk kind l v w x → List ℕ
  walked rest = []
  walked (onward {i = i} link p) = i ∷ walked p

  walked_open : {v w : ℕ} {x : K} (p : Walk kind l v w x) (i : ℕ) → Member i (walked p) → IsOpen l i
  unfolding walked
  walked_open rest i m = elim m [ ]
  walked_open (onward link p) i m = elim (behead m) [ inl e ↦ (link.run, ap (open_run l) e ∙ link.is_open) | inr n ↦ walked_open p i n ]

  walked_path : {v w : ℕ} {x : K} (p : Walk kind l v w x) → Path l (walked p) v w
  unfolding walked
  walked_path rest = stay
  walked_path (onward link p) = go here link (longer (walked_path p))

module _ {K : Type 0} {kind : Kind K} (laws : Laws kind) (l : Layout K) where
  open kind use {zero, plus, below}

  infix 40 ◌⊑◌
  abbrev ◌⊑◌ : K → K → Type 0
  a ⊑ b = below b a ≡ false

  abbrev D : ℕ → ℕ → K → Type 0
  D v I c = Deriv kind l v I c

  walked_cost : {v w : ℕ} {x : K} (p : Walk kind l v w x) → cost_of kind l (walked p) ≡ x
  unfolding walked
  walked_cost rest = refl
  walked_cost (onward link p) = ap₂ plus (link_cost kind link) (walked_cost p) ∙ laws.comm _ _

  walk_back : {v w I : ℕ} {x c : K} → Walk kind l v w x → D w I c → (m : K) × D v I m × (m ≡ plus x c)
  walk_back {c = c} rest d = (c, d, sym (laws.neutral c))
  walk_back {c = c} (onward {x = x} {k = k} link p) d =
      let q = walk_back p d in
      let e : plus (plus x c) k ≡ plus (plus x k) c = simp (laws.assoc, laws.comm) in
      (plus q.0 k, step link q.1, ap (λ y. plus y k) q.2 ∙ e)

  -- a derivation is of one outlet, or walks to a fork
  abbrev View : ℕ → ℕ → K → Type 0
  View v I c = ((i : ℕ) × (i < others l) × (I ≡ 2 ^ i)) ⊎ Branch kind l v I c

  step_branch : {v w I i : ℕ} {c k : K} → Link l i v w k → Branch kind l w I c → Branch kind l v I (plus c k)
  step_branch {c = c} {k = k} link q =
      let e : (x a b : K) → plus (plus x (plus a b)) k ≡ plus (plus x k) (plus a b) = λ x a b. simp (laws.assoc, laws.comm, left_comm laws) in
      record {
        w = q.w;
        A = q.A;
        B = q.B;
        way = plus q.way k;
        a = q.a;
        b = q.b;
        apart = q.apart;
        whole = q.whole;
        walk = onward link q.walk;
        left = q.left;
        right = q.right;
        sum = ap (λ y. plus y k) q.sum ∙ e q.way q.a q.b;
      }

  view : {v I : ℕ} {c : K} → D v I c → View v I c
  view (outlet i h) = inl (i, h, refl)
  view (step link d) = elim (view d) [ inl q ↦ inl q | inr q ↦ inr (step_branch link q) ]
  view (fork {v = v} {I = I} {J = J} {c = c} {d = d} a x y) =
      inr (record { w = v; A = I; B = J; way = zero; a = c; b = d; apart = a; whole = refl; walk = rest; left = x; right = y; sum = sym (laws.neutral _) })

  -- ---- of the cheapest derivation each part is cheapest
  distance_one : {v i : ℕ} {c : K} → i < others l → Cheapest kind l v (2 ^ i) c → Distance kind l v (placed l i) c
  distance_one {v} {i} {c} b h =
      let q = cheapest_least laws h in
      record {
        set = q.set;
        is_open = q.is_open;
        joins = q.joins v (placed l i) (inl refl) (inr (record { place = i; within = b; has = has_self i; is = refl }));
        costs = q.costs;
        least = λ S o p. q.least S o (connects (λ j n m. subst (λ x. Path l S v (placed l x)) (sym (has_single i j m)) p));
      }

  module _ {v I : ℕ} {c : K} (h : Cheapest kind l v I c) (q : Branch kind l v I c) where
    at_least : (m : K) → D v (bit_or q.A q.B) m → plus q.way (plus q.a q.b) ⊑ m
    at_least m d = le_trans laws _ _ _ (le_eq laws (sym q.sum)) (h.least m (subst (λ J. D v J m) q.whole d))

    branch_way : Distance kind l v q.w q.way
    branch_way =
        record {
          set = S;
          is_open = o;
          joins = path;
          costs = laws.equal _ _ (least S o path) (le_trans laws _ _ _ (set_within l laws (walked q.walk) o (gather_same (walked q.walk)).from) (le_eq laws (walked_cost q.walk)));
          least = least;
        }
      where
        S : List ℕ
        S = gather (walked q.walk)

        o : OpenSet l S
        o = gather_open l (walked q.walk) (walked_open q.walk)

        path : Path l S v q.w
        path = wider (gather_same (walked q.walk)).to (walked_path q.walk)

        least : (S : List ℕ) → OpenSet l S → Path l S v q.w → q.way ⊑ cost_of kind l S
        least S o p =
            let both = fork q.apart q.left q.right in
            let r = led laws l S (deriv_some both) p both in
            cancel laws _ _ (plus q.a q.b) (le_trans laws _ _ _ (at_least r.0 r.1) r.2)

    branch_left : Cheapest kind l q.w q.A q.a
    branch_left = record {
      derived = q.left;
      least = λ m x.
          (let r = walk_back q.walk (fork q.apart x q.right) in
          cancel laws _ _ q.b (cancel_l laws _ _ q.way (le_trans laws _ _ _ (at_least r.0 r.1) (le_eq laws r.2))));
    }

    branch_right : Cheapest kind l q.w q.B q.b
    branch_right = record {
      derived = q.right;
      least = λ m x.
          (let r = walk_back q.walk (fork q.apart q.left x) in
          cancel_l laws _ _ q.a (cancel_l laws _ _ q.way (le_trans laws _ _ _ (at_least r.0 r.1) (le_eq laws r.2))));
    }

  -- ---- what the recurrence gives can be derived
  abbrev Derived : ℕ → ℕ → K → Type 0
  Derived v I c = (m : K) × D v I m × (m ⊑ c)

  split_derived : {P : ℕ → ℕ → K → Type 0} {v I : ℕ} {c : K} → ((w A : ℕ) (a : K) → P w A a → Derived w A a) → Split kind l P v I c → Derived v I c
  split_derived {P} {v} {I} {c} f s =
      let x = f s.w s.A s.a s.costs_a in
      let y = f s.w s.B s.b s.costs_b in
      let both = fork s.apart x.1 y.1 in
      let r = led laws l s.distance.set (deriv_some both) s.distance.joins both in (
        r.0,
        subst (λ J. D v J r.0) s.whole r.1,
        le_trans laws _ _ _ r.2 (le_trans laws _ _ _ (mono laws _ _ _ _ (le_eq laws s.distance.costs) (mono laws _ _ _ _ x.2 y.2)) (le_eq laws (sym s.sum))),
      )

  recurs_derived : {P : ℕ → ℕ → K → Type 0} {v I : ℕ} {c : K} → ((w A : ℕ) (a : K) → P w A a → Derived w A a) → Recurs kind l P v I c → Derived v I c
  recurs_derived {P} {v} f (single {i = i} b dist) =
      let r = from_paths laws l dist.set v (2 ^ i) (λ e. absurd (omega (arith, pow_pos i))) (pow_below i (others l) b)
      (λ j n m. subst (λ x. Path l dist.set v (placed l x)) (sym (has_single i j m)) dist.joins) in
      (r.0, r.1, le_trans laws _ _ _ r.2 (le_eq laws dist.costs))
  recurs_derived f (several s least) = split_derived f s

  rounds_derived : (n v I : ℕ) (c : K) → Rounds kind l n v I c → Derived v I c
  rounds_derived no_more v I c r = absurd r
  rounds_derived (suc n) v I c r = recurs_derived (rounds_derived n) r

  -- ---- and the cheapest derivation is what the recurrence gives
  rounds : (n v I : ℕ) (c : K) → I < n → Cheapest kind l v I c → Rounds kind l n v I c
  rounds no_more v I c small h = absurd (omega arith)
  rounds (suc n) v I c small h = pick (rounds n) (view h.derived)
    where
      pick : ((v I : ℕ) (c : K) → I < n → Cheapest kind l v I c → Rounds kind l n v I c) → View v I c → Recurs kind l (Rounds kind l n) v I c
      pick ih (inl q) =
          subst (λ J. Recurs kind l (Rounds kind l n) v J c) (sym q.2) (single q.1 (distance_one q.1 (subst (λ J. Cheapest kind l v J c) q.2 h)))
      pick ih (inr q) =
          let a_some = deriv_some q.left in
          let b_some = deriv_some q.right in
          let A-small : q.A < n = omega (arith, part_below q.A q.B q.apart b_some, q.whole) in
          let B-small : q.B < n = omega (arith, part_below q.B q.A (apart_comm q.A q.B q.apart) a_some, or_comm q.B q.A, q.whole) in
          several
          (record {
            w = q.w;
            A = q.A;
            B = q.B;
            way = q.way;
            a = q.a;
            b = q.b;
            a_some = a_some;
            b_some = b_some;
            apart = q.apart;
            whole = q.whole;
            distance = branch_way h q;
            costs_a = ih q.w q.A q.a A-small (branch_left h q);
            costs_b = ih q.w q.B q.b B-small (branch_right h q);
            sum = q.sum;
          })
          (λ d s. let r = split_derived (rounds_derived n) s in le_trans laws _ _ _ (h.least r.0 r.1) r.2)

  pub is_dreyfus_wagner : (v I : ℕ) (c : K) → Cheapest kind l v I c → DreyfusWagner kind l v I c
  is_dreyfus_wagner v I c h = rounds (sets l) v I c (deriv_below h.derived) h

  -- ---- there is one Dreyfus–Wagner cost at most
  same_distance : {v w : ℕ} {c d : K} → Distance kind l v w c → Distance kind l v w d → d ⊑ c
  same_distance x y = le_trans laws _ _ _ (y.least x.set x.is_open x.joins) (le_eq laws x.costs)

  one_cost : {P : ℕ → ℕ → K → Type 0} {v I J : ℕ} {c d : K} → Recurs kind l P v I c → Recurs kind l P v J d → I ≡ J → d ⊑ c
  one_cost {P} {v} (single {i = i} b x) (single {i = j} {c = d} n y) e =
      same_distance x (subst (λ k. Distance kind l v (placed l k) d) (sym (same_place i j e)) y)
  one_cost (single {i = i} b x) (several s f) e = absurd (not_split s.A s.B i (s.whole ∙ sym e) s.apart s.a_some s.b_some)
  one_cost (several s f) (single {i = i} b x) e = absurd (not_split s.A s.B i (s.whole ∙ e) s.apart s.a_some s.b_some)
  one_cost {P} {v} {I} {J} {c} {d} (several s f) (several r g) e = g c (subst (λ k. Split kind l P v k c) e s)

  one_round : (n v I : ℕ) (c d : K) → Rounds kind l n v I c → Rounds kind l n v I d → d ≡ c
  one_round no_more v I c d x y = absurd x
  one_round (suc n) v I c d x y = laws.equal _ _ (one_cost y x refl) (one_cost x y refl)

  pub one_dreyfus_wagner : (v I : ℕ) (c d : K) → DreyfusWagner kind l v I c → DreyfusWagner kind l v I d → d ≡ c
  one_dreyfus_wagner v I c d x y = one_round (sets l) v I c d x y
