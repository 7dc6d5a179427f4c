-- The steps of the loops that find distances. Assumes nothing.
use Rattle.std.proofs.Common.{◌≡◌, ℕ, zero, suc, ◌+◌, ◌-◌, ◌*◌, ◌<◌, ◌≤◌, Bool, true, false, cond, List, [], ◌∷◌, ◌++◌, length, get_or, drop, Option, unwrap_or, sym, refl, ap, ◌∙◌, add-one, arith}
use Rattle.std.proofs.lemmas.List.{drop_more, drop_all}
use Rattle.std.proofs.lemmas.Bool.{cond-true, cond-false}
use Rattle.network.specs.Costs.{Kind, greater}
use Rattle.network.specs.declared.run.Run.{Run}
use Rattle.farthest.specs.Trials.{open_runs, Arc, arc, run_arcs, round_arcs, tried, applied, rounds}
use Rattle.farthest.specs.Distances.{Distances, in_set, farthest}

module _ {K : Type 0} (kind : Kind K) where
  pub applied_append : (xs ys : List (Arc K)) (ds : List (Option K)) → applied kind (xs ++ ys) ds ≡ applied kind ys (applied kind xs ds)
  applied_append [] ys ds = refl
  applied_append (x ∷ xs) ys ds = applied_append xs ys (tried kind x ds)

  -- one outlet more of a run
  pub run_more : (r : Run K) (j : ℕ) (ds₀ ds ds₁ ds₂ : List (Option K)) → ds ≡ applied kind (run_arcs j r) ds₀
      → ds₁ ≡ tried kind (arc (r.b * 12 + j) (r.a * 12 + j) r.cost) ds
      → ds₂ ≡ tried kind (arc (r.a * 12 + j) (r.b * 12 + j) r.cost) ds₁
      → ds₂ ≡ applied kind (run_arcs (j + 1) r) ds₀
  run_more r j ds₀ ds ds₁ ds₂ e f g =
      let t = tried kind (arc (r.b * 12 + j) (r.a * 12 + j) r.cost) in
      let u = tried kind (arc (r.a * 12 + j) (r.b * 12 + j) r.cost) in
      rw add-one (g ∙ (ap u (f ∙ ap t e) ∙ sym (applied_append (run_arcs j r) _ ds₀)))

  -- one run more of a round
  pub round_more : (n : ℕ) (rs : List (Run K)) (os : List Bool) (i : ℕ) (r : Run K) (o : Bool) (ds : List (Option K)) → i < length rs → i < length os → r ≡ get_or rs i r → get_or os i false ≡ o
      → applied kind (round_arcs n (open_runs (drop i rs) (drop i os))) ds
      ≡ applied kind (round_arcs n (open_runs (drop (i + 1) rs) (drop (i + 1) os))) (cond o (applied kind (run_arcs n r) ds) ds)
  round_more n rs os i r o ds l m e f =
      let tail = open_runs (drop (i + 1) rs) (drop (i + 1) os) in
      let here : open_runs (drop i rs) (drop i os) ≡ cond o (r ∷ tail) tail =
      ap (λ xs. open_runs xs (drop i os)) (drop_more rs i r l ∙ ap (λ x. x ∷ drop (i + 1) rs) (sym e))
      ∙ ap (λ ys. open_runs (r ∷ drop (i + 1) rs) ys) (drop_more os i false m ∙ ap (λ y. y ∷ drop (i + 1) os) f) in
      ap (λ xs. applied kind (round_arcs n xs) ds) here ∙ look o
    where
      look : (o : Bool) → applied kind (round_arcs n (cond o (r ∷ open_runs (drop (i + 1) rs) (drop (i + 1) os)) (open_runs (drop (i + 1) rs) (drop (i + 1) os)))) ds
          ≡ applied kind (round_arcs n (open_runs (drop (i + 1) rs) (drop (i + 1) os))) (cond o (applied kind (run_arcs n r) ds) ds)
      look true = applied_append (run_arcs n r) (round_arcs n (open_runs (drop (i + 1) rs) (drop (i + 1) os))) ds
      look false = refl

  pub round_all : (n : ℕ) (rs : List (Run K)) (os : List Bool) (i : ℕ) (ds : List (Option K)) → length rs ≤ i → applied kind (round_arcs n (open_runs (drop i rs) (drop i os))) ds ≡ ds
  round_all n rs os i ds l = ap (λ xs. applied kind (round_arcs n (open_runs xs (drop i os))) ds) (drop_all i rs l)

  rounds_still : (xs : List (Arc K)) (ds : List (Option K)) (r n : ℕ) → applied kind xs (rounds kind r xs ds) ≡ rounds kind r xs ds
      → rounds kind (n + r) xs ds ≡ rounds kind r xs ds
  rounds_still xs ds r zero e = ap (λ i. rounds kind i xs ds) (omega arith)
  rounds_still xs ds r (suc n) e =
      let q : suc n + r ≡ suc (n + r) = omega arith in
      ap (λ i. rounds kind i xs ds) q ∙ (ap (applied kind xs) (rounds_still xs ds r n e) ∙ e)

  -- a round that changes nothing is the last
  pub rounds_end : (xs : List (Arc K)) (ds₀ ds ds₁ : List (Option K)) (r n : ℕ) → r ≤ n → ds ≡ rounds kind r xs ds₀ → ds₁ ≡ applied kind xs ds → ds₁ ≡ ds
      → ds₁ ≡ rounds kind n xs ds₀
  rounds_end xs ds₀ ds ds₁ r n l e f g =
      let q : n - r + r ≡ n = omega arith in
      let still = rounds_still xs ds₀ r (n - r) (ap (applied kind xs) (sym e) ∙ (sym f ∙ (g ∙ e))) in
      g ∙ (e ∙ (sym still ∙ ap (λ i. rounds kind i xs ds₀) q))

-- one outlet more of the farthest
module _ {K : Type 0} (kind : Kind K) (ds : Distances K) (v I j : ℕ) (best new : K) (e : best ≡ farthest kind ds v I j) where
  pub far_skip : in_set I j ≡ true → new ≡ best → new ≡ farthest kind ds v I (j + 1)
  far_skip h f = rw add-one (f ∙ (e ∙ sym (cond-true (in_set I j) _ _ h)))

  pub far_more : in_set I j ≡ false → new ≡ greater kind best (unwrap_or (ds v j) kind.zero) → new ≡ farthest kind ds v I (j + 1)
  far_more h f = rw add-one (f ∙ (ap (λ x. greater kind x (unwrap_or (ds v j) kind.zero)) e ∙ sym (cond-false (in_set I j) _ _ h)))
