-- A derivation drawn: its runs, each taken once, join and cost no more. Assumes nothing.
use Rattle.std.proofs.Common.{◌≡◌, ℕ, ◌<◌, false, ◌≢◌, ◌⊎◌, List, sym, refl, ap, ◌∙◌, subst, ap₂, inl, inr, arith}
use lib.Bits.{or_lt}
use Rattle.std.proofs.lemmas.Nat.{pow_below, pow_pos}
use Rattle.network.specs.Costs.{Kind, Laws}
use Rattle.network.specs.Layouts.{Layout, open_run, Link, Member, here, OpenSet, cost_of_run, cost_of, Path, go}
use Rattle.network.specs.Bounds.{others, placed, sets, Has}
use Rattle.theory.specs.Derivations.{InSet, Connects, Deriv, outlet, step, fork, uses, Same}
use Rattle.network.proofs.Order.{le_trans, le_eq}
use Rattle.theory.proofs.Masks.{has_or, has_single, or_some}
use Rattle.theory.proofs.Paths.{on, back, same, wider, longer}
use Rattle.theory.proofs.Sets.{IsOpen, behead, in_left, in_right, in_either, gather, gather_same, gather_open, set_within, cost_append}

module _ {K : Type 0} {l : Layout K} where
  -- paths from v to each outlet of I join v with all of them
  pub connects : {S : List ℕ} {v I : ℕ} → ((i : ℕ) → i < others l → Has I i → Path l S v (placed l i)) → Connects l S v I
  connects {S} {v} {I} f u w p q = on (back (reach p)) (reach q)
    where
      reach : {u : ℕ} → (u ≡ v) ⊎ InSet l I u → Path l S v u
      reach (inl e) = same (sym e)
      reach (inr q) = subst (Path l S v) (sym q.is) (f q.place q.within q.has)

pub link_cost : {K : Type 0} (kind : Kind K) {l : Layout K} {i v w : ℕ} {k : K} → Link l i v w k → cost_of_run kind (open_run l i) ≡ k
link_cost kind e = rw e.is_open e.leads.costs

module _ {K : Type 0} {kind : Kind K} {l : Layout K} where
  pub deriv_some : {v I : ℕ} {c : K} → Deriv kind l v I c → I ≢ 0
  deriv_some (outlet i h) = λ e. absurd (omega (arith, pow_pos i))
  deriv_some (step j d) = deriv_some d
  deriv_some (fork {I = I} {J = J} a x y) = or_some I J (deriv_some x)

  pub deriv_below : {v I : ℕ} {c : K} → Deriv kind l v I c → I < sets l
  deriv_below (outlet i h) = pow_below i (others l) h
  deriv_below (step j d) = deriv_below d
  deriv_below (fork {I = I} {J = J} a x y) = or_lt (others l) I J (deriv_below x) (deriv_below y)

  uses_open : {v I : ℕ} {c : K} (d : Deriv kind l v I c) (i : ℕ) → Member i (uses d) → IsOpen l i
  uses_open (outlet j h) i m = elim m [ ]
  uses_open (step {i = j} link d) i m =
      elim (behead m) [ inl e ↦ (link.run, ap (open_run l) e ∙ link.is_open) | inr n ↦ uses_open d i n ]
  uses_open (fork a x y) i m = elim (in_either (uses x) m) [ inl n ↦ uses_open x i n | inr n ↦ uses_open y i n ]

  uses_path : {v I : ℕ} {c : K} (d : Deriv kind l v I c) (i : ℕ) → Has I i → Path l (uses d) v (placed l i)
  uses_path (outlet j b) i h = same (ap (placed l) (sym (has_single j i h)))
  uses_path (step link d) i h = go here link (longer (uses_path d i h))
  uses_path (fork {I = I} {J = J} a x y) i h =
      elim (has_or I J i h) [ inl m ↦ wider (λ k n. in_left (uses y) n) (uses_path x i m) | inr m ↦ wider (λ k n. in_right (uses x) n) (uses_path y i m) ]

  -- the runs of a derivation, gathered
  pub drawing : {v I : ℕ} {c : K} → Deriv kind l v I c → List ℕ
  drawing d = gather (uses d)

  pub drawing_open : {v I : ℕ} {c : K} (d : Deriv kind l v I c) → OpenSet l (drawing d)
  unfolding drawing
  drawing_open d = gather_open l (uses d) (uses_open d)

  pub drawing_same : {v I : ℕ} {c : K} (d : Deriv kind l v I c) → Same (drawing d) (uses d)
  unfolding drawing
  drawing_same d = gather_same (uses d)

  pub drawn_path : {v I : ℕ} {c : K} (d : Deriv kind l v I c) (S : List ℕ) → Same S (uses d) → (i : ℕ) → Has I i → Path l S v (placed l i)
  drawn_path d S s i h = wider s.to (uses_path d i h)

  pub drawn_joins : {v I : ℕ} {c : K} (d : Deriv kind l v I c) (S : List ℕ) → Same S (uses d) → Connects l S v I
  drawn_joins d S s = connects (λ i b h. drawn_path d S s i h)

  module _ (laws : Laws kind) where
    open kind use {plus, below}

    uses_cost : {v I : ℕ} {c : K} (d : Deriv kind l v I c) → cost_of kind l (uses d) ≡ c
    uses_cost (outlet i h) = refl
    uses_cost (step link d) = ap₂ plus (link_cost kind link) (uses_cost d) ∙ laws.comm _ _
    uses_cost (fork a x y) = cost_append l laws (uses x) (uses y) ∙ ap₂ plus (uses_cost x) (uses_cost y)

    pub drawn_cost : {v I : ℕ} {c : K} (d : Deriv kind l v I c) (S : List ℕ) → OpenSet l S → Same S (uses d) → below c (cost_of kind l S) ≡ false
    drawn_cost d S o s = le_trans laws _ _ _ (set_within l laws (uses d) o s.from) (le_eq laws (uses_cost d))
