-- What the law of a bound gives over one run and at a fork. Assumes nothing.
use Rattle.std.proofs.Common.{◌≡◌, ℕ, ◌<◌, false, ◌⊎◌, [], ◌∷◌, sym, refl, ap, ◌∙◌, subst, inl, inr, arith}
use lib.Bits.{bit_or}
use Rattle.network.specs.Costs.{Kind, Laws}
use Rattle.network.specs.Layouts.{Layout, Link, here, none, more, cost_of, Path, stay, go}
use Rattle.network.specs.Bounds.{sets, Missing, Lawful}
use Rattle.theory.specs.Derivations.{Deriv}
use Rattle.network.proofs.Order.{le_trans, le_eq, mono_r, unit_r}
use Rattle.theory.proofs.Masks.{has_or_left, inside_or}
use Rattle.theory.proofs.Paths.{on, back, same}
use Rattle.theory.proofs.Drawing.{link_cost, drawing, drawing_open, drawing_same, drawn_path, drawn_cost}

module _ {K : Type 0} {kind : Kind K} (laws : Laws kind) {l : Layout K} where
  open kind use {zero, plus, below}

  -- no bound at all is a bound
  pub no_bound : Lawful kind l (λ v I. zero)
  no_bound = record { at_root = refl; along = λ v w I J S i s o j. laws.least _; light = λ v I. rw laws.bulk_zero (omega arith) }

  module _ {bound : ℕ → ℕ → K} (law : Lawful kind l bound) where
    pub over : {v w I i : ℕ} {k : K} → I < sets l → Link l i v w k → below (plus (bound v I) k) (bound w I) ≡ false
    over {v} {w} {I} {i} {k} small link =
        let e : plus (bound v I) (cost_of kind l (i ∷ [])) ≡ plus (bound v I) k = ap (plus (bound v I)) (unit_r laws _ ∙ link_cost kind link) in
        le_trans laws _ _ _ (law.along w v I I (i ∷ []) (λ j h. h) small (more (omega arith) link.is_open none) (λ u x p q. on (back (reach p)) (reach q))) (le_eq laws e)
      where
        reach : {u : ℕ} → (u ≡ w) ⊎ ((u ≡ v) ⊎ Missing l I I u) → Path l (i ∷ []) v u
        reach (inl e) = on (go here link stay) (same (sym e))
        reach (inr (inl e)) = same (sym e)
        reach (inr (inr q)) = absurd (q.lacking q.wanted)

    pub with_more : {v I J : ℕ} {d : K} → bit_or I J < sets l → Deriv kind l v J d → below (plus (bound v (bit_or I J)) d) (bound v I) ≡ false
    with_more {v} {I} {J} {d} small x =
        le_trans laws _ _ _
        (law.along v v I (bit_or I J) (drawing x) (λ i h. has_or_left I J i h) small (drawing_open x) (λ u w p q. on (back (reach p)) (reach q)))
        (mono_r laws _ _ _ (drawn_cost laws x (drawing x) (drawing_open x) (drawing_same x)))
      where
        reach : {u : ℕ} → (u ≡ v) ⊎ ((u ≡ v) ⊎ Missing l I (bit_or I J) u) → Path l (drawing x) v u
        reach (inl e) = same (sym e)
        reach (inr (inl e)) = same (sym e)
        reach (inr (inr q)) =
            subst (Path l (drawing x) v) (sym q.is) (drawn_path x (drawing x) (drawing_same x) q.place (inside_or I J q.place q.wanted q.lacking))
