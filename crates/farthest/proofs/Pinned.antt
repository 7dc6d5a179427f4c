-- A priced district has one bound by the farthest outlet. Assumes nothing.
use Rattle.std.proofs.Common.{◌≡◌, ℕ, ◌-◌, ◌^◌, ◌<◌, cond, ltb, length, Some, None, Option, sym, refl, ap, ◌∙◌, subst}
use Rattle.network.specs.Costs.{Kind, Laws, AtMost}
use Rattle.network.specs.Layouts.{Layout, Distance, Priced}
use Rattle.farthest.specs.Distances.{Distances, Measured, Far}
use Rattle.farthest.proofs.Prepared.{far_same}

module _ {K : Type 0} {kind : Kind K} (laws : Laws kind) (l : Layout K) where
  at_most : {v w : ℕ} {d e : K} → Distance kind l v w d → Distance kind l v w e → AtMost kind d e
  at_most {d = d} p q = subst (AtMost kind d) q.costs (p.least q.set q.is_open q.joins)

  one_distance : (v w : ℕ) (d e : K) → Distance kind l v w d → Distance kind l v w e → d ≡ e
  one_distance v w d e p q = laws.equal d e (at_most q p) (at_most p q)

  same_known : (ds es : Distances K) → Measured kind l ds → Measured kind l es → (v j : ℕ) → j < length l.outlets → ds v j ≡ es v j
  same_known ds es m n v j h = look (ds v j) (es v j) refl refl
    where
      look : (x y : Option K) → ds v j ≡ x → es v j ≡ y → x ≡ y
      look None None p q = refl
      look (Some d) (Some e) p q = ap Some (one_distance v _ d e (m.some v j d h p) (n.some v j e h q))
      look (Some d) None p q = let x = m.some v j d h p in absurd (n.none v j h q x.set x.is_open x.joins)
      look None (Some e) p q = let x = n.some v j e h q in absurd (m.none v j h p x.set x.is_open x.joins)

  pub far_pins : (E F : ℕ → ℕ → K) → Priced kind l.runs → Far kind l E → Far kind l F → (v I : ℕ) → E v I ≡ F v I
  far_pins E F p a b v I =
      let same = far_same laws a.distances b.distances v I (length l.outlets) (same_known a.distances b.distances (a.measured p) (b.measured p) v) in
      a.is v I ∙ ((λ i. cond (ltb v l.junctions) (cond (ltb I (2 ^ (length l.outlets - 1))) (same i) kind.zero) kind.zero) ∙ sym (b.is v I))
