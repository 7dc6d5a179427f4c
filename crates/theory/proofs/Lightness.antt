-- Where runs have the costs that the questions let in, sets of runs are light. Assumes nothing.
use Rattle.std.proofs.Common.{◌≡◌, ℕ, zero as first, suc, ◌-◌, ◌*◌, ◌<◌, ◌≤◌, Bool, true, false, List, [], ◌∷◌, length, get_or, Some, sym, refl, subst, arith}
use Rattle.network.specs.declared.run.Run.{Run}
use Rattle.network.specs.Costs.{Kind, Laws}
use Rattle.network.specs.Layouts.{Layout, picked, open_run, Climbs, none, more, OpenSet, cost_of_run, cost_of, Priced}
use Rattle.theory.specs.Derivations.{Cheapest}
use Rattle.theory.proofs.Paths.{same_some, no_some}
use Rattle.theory.proofs.Optimal.{cheapest_least}

picked_in : {K : Type 0} (rs : List (Run K)) (os : List Bool) (i : ℕ) {r : Run K} → picked rs os i ≡ Some r → (i < length rs) × (r ≡ get_or rs i r)
picked_in [] os i e = absurd (no_some _ _ refl e)
picked_in (x ∷ rs) [] i e = absurd (no_some _ _ refl e)
picked_in (x ∷ rs) (true ∷ os) first e = (omega arith, sym (same_some e))
picked_in (x ∷ rs) (false ∷ os) first e = absurd (no_some _ _ refl e)
picked_in (x ∷ rs) (o ∷ os) (suc i) e = let q = picked_in rs os i e in (omega arith, q.1)

module _ {K : Type 0} {kind : Kind K} (laws : Laws kind) (l : Layout K) (priced : Priced kind l.runs) where
  open kind use {plus, bulk}

  run_light : {i : ℕ} {r : Run K} → open_run l i ≡ Some r → (i < length l.runs) × (bulk (cost_of_run kind (open_run l i)) ≤ 1000000)
  run_light {i} {r} e =
      let q = picked_in l.runs l.«open» i e in
      let P : Run K → Type 0 = λ x. bulk x.cost ≤ 1000000 in
      (q.0, rw e (subst P (sym q.1) (priced i r q.0).bulk_within))

  climbs_light : {low : ℕ} {S : List ℕ} → Climbs l low S → bulk (cost_of kind l S) ≤ (length l.runs - low) * 1000000
  climbs_light none = rw laws.bulk_zero (omega arith)
  climbs_light (more {i = i} {S = S} a o c) =
      let q = run_light o in
      let rest = climbs_light c in
      let sum = laws.bulk_plus (cost_of_run kind (open_run l i)) (cost_of kind l S) in
      omega (arith, q, rest, sum)

  pub set_light : (S : List ℕ) → OpenSet l S → bulk (cost_of kind l S) ≤ length l.runs * 1000000
  set_light S o = let h = climbs_light o in omega arith

  pub cheapest_light : (v I : ℕ) (c : K) → Cheapest kind l v I c → bulk c ≤ length l.runs * 1000000
  cheapest_light v I c h =
      let q = cheapest_least laws h in
      let P : K → Type 0 = λ x. bulk x ≤ length l.runs * 1000000 in
      subst P q.costs (set_light q.set q.is_open)
