-- Drawing along the ways back. Assumes nothing.
use Rattle.std.proofs.Common.{◌≡◌, ℕ, zero, suc, ◌-◌, ◌<◌, ◌≤◌, List, [], ◌∷◌, length, get_or, set, sym, refl, ap, ◌∙◌, subst, arith}
use Rattle.std.proofs.lemmas.List.{length-set}
use Rattle.std.proofs.lemmas.Bool.{cond-true, cond-false, eq-eqb, ne_eqb}
use Rattle.network.specs.declared.run.Run.{Run}
use Rattle.labelling.specs.declared.kinds.Back.{Back}
use Rattle.labelling.specs.declared.kinds.Back.TheVariants.{Start, Run as ByRun, Fork}
use Rattle.labelling.specs.declared.kinds.Size.{Size}
use Rattle.labelling.specs.declared.kinds.Way.{Way}
use Rattle.labelling.specs.Tables.{codes, code_of}
use Rattle.labelling.proofs.Offering.{code_within}
use Rattle.optimal.specs.Drawing.{far_end, back_of, by, drawn}
use Rattle.search.specs.Drawing.{turn_of, Settled, Leads, Falls}

-- the other end, as the code finds it
module _ {K : Type 0} where
  pub far_there : (runs : List (Run K)) (i v : ℕ) (d : Run K) → i < length runs → (get_or runs i d).a ≡ v → (get_or runs i d).b ≡ far_end runs i v
  far_there [] i v d lt e = absurd (omega arith)
  far_there (y ∷ ys) zero v d lt e = sym (cond-true _ _ _ (eq-eqb y.a v e))
  far_there (y ∷ ys) (suc i) v d lt e = far_there ys i v d (omega arith) e

  pub far_back : (runs : List (Run K)) (i v : ℕ) (d : Run K) → i < length runs → ((get_or runs i d).a ≡ v → ⊥) → (get_or runs i d).a ≡ far_end runs i v
  far_back [] i v d lt n = absurd (omega arith)
  far_back (y ∷ ys) zero v d lt n = sym (cond-false _ _ _ (ne_eqb y.a v n))
  far_back (y ∷ ys) (suc i) v d lt n = far_back ys i v d (omega arith) n

module _ {K : Type 0} (size : Size) (runs : List (Run K)) (ways : List Way) where
  pub code_inside : (v I : ℕ) → Settled size runs ways v I → codes size ≤ length ways → code_of size v I < length ways
  code_inside v I d long = let lt = code_within size v I d.junction d.outlets in omega arith

  -- a step back with two ways to go on that do the same from where it leads
  step_same : (go go' : ℕ → ℕ → List ℕ → List ℕ) (t v I : ℕ) (b : Back) (row : List ℕ) → Leads size runs ways t v I b
      → ((w J : ℕ) (r : List ℕ) → Settled size runs ways w J → turn_of size runs ways w J < t → go w J r ≡ go' w J r)
      → by size runs ways go b v I row ≡ by size runs ways go' b v I row
  step_same go go' t v I Start row h same = refl
  step_same go go' t v I (ByRun i) row h same = same (far_end runs i v) I (set row i 1) h.1 h.2
  step_same go go' t v I (Fork J) row h same =
      same v (I - J) (go v J row) h.3 h.4 ∙ ap (go' v (I - J)) (same v J row h.1 h.2)

  -- with just enough turns
  abbrev pub all : ℕ → ℕ → List ℕ → List ℕ
  all v I row = drawn size runs ways (suc (turn_of size runs ways v I)) v I row

  -- a branch drawn from `from` to v: what is left to draw from there gives the whole
  pub record Come (from I : ℕ) (row0 row : List ℕ) (v : ℕ) : Type 0 where
    pub settled : Settled size runs ways v I
    pub falls : turn_of size runs ways v I ≤ turn_of size runs ways from I
    pub long : length row ≡ length row0
    pub whole : all v I row ≡ all from I row0

  module _ (falls : Falls size runs ways) where
    -- turns enough are enough
    pub enough : (m n v I : ℕ) (row : List ℕ) → Settled size runs ways v I → turn_of size runs ways v I < m → turn_of size runs ways v I < n → drawn size runs ways m v I row ≡ drawn size runs ways n v I row
    enough zero n v I row d p q = absurd (omega arith)
    enough (suc m) zero v I row d p q = absurd (omega arith)
    enough (suc m) (suc n) v I row d p q =
        step_same (drawn size runs ways m) (drawn size runs ways n) (turn_of size runs ways v I) v I (back_of size runs ways v I) row (falls v I d)
        (λ w J r e lt. enough m n w J r e (omega arith) (omega arith))

    module _ (v I : ℕ) (d : Settled size runs ways v I) (row : List ℕ) where
      pub leads : (b : Back) → b ≡ back_of size runs ways v I → Leads size runs ways (turn_of size runs ways v I) v I b
      leads b e = subst (Leads size runs ways (turn_of size runs ways v I) v I) (sym e) (falls v I d)

      step_at : (b : Back) → b ≡ back_of size runs ways v I → all v I row ≡ by size runs ways (drawn size runs ways (turn_of size runs ways v I)) b v I row
      step_at b e = ap (λ x. by size runs ways (drawn size runs ways (turn_of size runs ways v I)) x v I row) (sym e)

      module _ (from : ℕ) (row0 : List ℕ) (began : Settled size runs ways from I) (come : Come from I row0 row v) where
        whole_of : (n : ℕ) → turn_of size runs ways from I < n → all v I row ≡ drawn size runs ways n from I row0
        whole_of n lt =
            let here : turn_of size runs ways from I < suc (turn_of size runs ways from I) = omega arith in
            come.whole ∙ enough (suc (turn_of size runs ways from I)) n from I row0 began here lt

        pub at_start : Start ≡ back_of size runs ways v I → (n : ℕ) → turn_of size runs ways from I < n → row ≡ drawn size runs ways n from I row0
        at_start e n lt = sym (step_at Start e) ∙ whole_of n lt

        pub at_run : (i w : ℕ) → ByRun i ≡ back_of size runs ways v I → w ≡ far_end runs i v → Come from I row0 (set row i 1) w
        at_run i w e is-w =
            let h = leads (ByRun i) e in
            let le = come.falls in
            let lt : turn_of size runs ways (far_end runs i v) I < suc (turn_of size runs ways (far_end runs i v) I) = omega arith in
            subst (Come from I row0 (set row i 1)) (sym is-w) (record {
              settled = h.1;
              falls = omega (arith, h.2);
              long = length-set row i 1 ∙ come.long;
              whole = enough (suc (turn_of size runs ways (far_end runs i v) I)) (turn_of size runs ways v I) (far_end runs i v) I (set row i 1) h.1 lt h.2 ∙ sym (step_at (ByRun i) e) ∙ come.whole;
            })

        pub at_fork : (J : ℕ) (row' : List ℕ) → Fork J ≡ back_of size runs ways v I
            → ((n : ℕ) → turn_of size runs ways v J < n → turn_of size runs ways v (I - J) < n → row' ≡ drawn size runs ways n v (I - J) (drawn size runs ways n v J row))
            → (n : ℕ) → turn_of size runs ways from I < n → row' ≡ drawn size runs ways n from I row0
        at_fork J row' e f n lt =
            let h = leads (Fork J) e in
            f (turn_of size runs ways v I) h.2 h.4 ∙ sym (step_at (Fork J) e) ∙ whole_of n lt
