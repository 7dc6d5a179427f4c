-- One more turn of the labelling, and its three ends. Assumes nothing.
use Rattle.std.proofs.Common.{◌≡◌, ℕ, suc, ◌+◌, Bool, true, false, cond, eqb, List, Some, None, Option, sym, refl, ap, ◌∙◌}
use Rattle.std.proofs.lemmas.Bool.{cond-true, cond-false, eq-eqb, eqb-true, ne_eqb, false≢true}
use Rattle.labelling.specs.declared.kinds.Outcome.TheVariants.{Finished, NoneWaits}
use Rattle.network.specs.declared.run.Run.{Run}
use Rattle.labelling.specs.Tables.{Rule, Tables, least_waiting}
use Rattle.labelling.specs.Turns.{settled, turned_at, turned, took}
use Rattle.labelling.specs.Labelling.{Labelled, ended, stopped, made, settles, labelled}

none_made : {K : Type 0} (goal : ℕ) (o : Option (K × ℕ)) → None ≡ settles goal o → None ≡ o
none_made goal None e = refl
none_made goal (Some p) e = let z : None ≡ Some (eqb p.1 goal) = e in cc

module _ {K : Type 0} (r : Rule K) (marks : List Bool) (runs : List (Run K)) (goal n : ℕ) (t : Tables K) where
  pub labelled_stop : (b : ℕ) (o : Option (K × ℕ)) → b ≡ 0 → o ≡ least_waiting r t → ended (stopped o) n t ≡ labelled r marks runs goal b n t
  labelled_stop b o e h = ap (λ x. ended (stopped x) n t) h ∙ sym (ap (λ x. labelled r marks runs goal x n t) e)

  module _ (b b' : ℕ) (e : b ≡ suc b') (t' : Tables K) (is-t : t' ≡ took r marks runs goal (n + 1) t (least_waiting r t)) where
    go_on : ℕ → Labelled K
    go_on c = cond (eqb c goal) (ended Finished (n + 1) (settled t c (n + 1))) (labelled r marks runs goal b' (n + 1) (turned r marks runs (n + 1) t))

    by_made : (o : Option (K × ℕ)) → o ≡ least_waiting r t → made o (ended NoneWaits n t) go_on ≡ labelled r marks runs goal b n t
    unfolding go_on
    by_made o h = ap (λ x. made x (ended NoneWaits n t) go_on) h ∙ sym (ap (λ x. labelled r marks runs goal x n t) e)

    took_by : (o : Option (K × ℕ)) → o ≡ least_waiting r t → t' ≡ took r marks runs goal (n + 1) t o
    took_by o h = is-t ∙ sym (ap (took r marks runs goal (n + 1) t) h)

    pub labelled_none : None ≡ least_waiting r t → ended NoneWaits n t' ≡ labelled r marks runs goal b n t
    labelled_none h = ap (ended NoneWaits n) (took_by None h) ∙ by_made None h

    pub labelled_finished : (p : K × ℕ) → Some p ≡ least_waiting r t → p.1 ≡ goal → ended Finished (n + 1) t' ≡ labelled r marks runs goal b n t
    unfolding go_on
    labelled_finished p h at =
        let y = eq-eqb p.1 goal at in
        ap (ended Finished (n + 1)) (took_by (Some p) h ∙ cond-true (eqb p.1 goal) _ _ y) ∙ sym (cond-true (eqb p.1 goal) _ _ y) ∙ by_made (Some p) h

    pub labelled_more : (p : K × ℕ) → Some p ≡ least_waiting r t → (p.1 ≡ goal → ⊥) → labelled r marks runs goal b' (n + 1) t' ≡ labelled r marks runs goal b n t
    unfolding go_on
    labelled_more p h off =
        let y = ne_eqb p.1 goal off in
        ap (labelled r marks runs goal b' (n + 1)) (took_by (Some p) h ∙ cond-false (eqb p.1 goal) _ _ y ∙ ap (turned_at r marks runs (n + 1) t) h)
        ∙ sym (cond-false (eqb p.1 goal) _ _ y)
        ∙ by_made (Some p) h

    -- the same, by whether the turn settled the goal
    pub settled_none : None ≡ settles goal (least_waiting r t) → ended NoneWaits n t' ≡ labelled r marks runs goal b n t
    settled_none e = labelled_none (none_made goal (least_waiting r t) e)

    finished_by : (y : Bool) → y ≡ true → (o : Option (K × ℕ)) → o ≡ least_waiting r t → Some y ≡ settles goal o → ended Finished (n + 1) t' ≡ labelled r marks runs goal b n t
    finished_by y is None h e = let z : Some y ≡ None = e in cc
    finished_by y is (Some p) h e =
        let z : Some y ≡ Some (eqb p.1 goal) = e in
        let at : eqb p.1 goal ≡ true = cc in
        labelled_finished p h (eqb-true p.1 goal at)

    pub settled_finished : (y : Bool) → y ≡ true → Some y ≡ settles goal (least_waiting r t) → ended Finished (n + 1) t' ≡ labelled r marks runs goal b n t
    settled_finished y is e = finished_by y is (least_waiting r t) refl e

    more_by : (y : Bool) → y ≡ false → (o : Option (K × ℕ)) → o ≡ least_waiting r t → Some y ≡ settles goal o → labelled r marks runs goal b' (n + 1) t' ≡ labelled r marks runs goal b n t
    more_by y is None h e = let z : Some y ≡ None = e in cc
    more_by y is (Some p) h e =
        let z : Some y ≡ Some (eqb p.1 goal) = e in
        let off : false ≡ eqb p.1 goal = cc in
        labelled_more p h (λ at. false≢true (off ∙ eq-eqb p.1 goal at))

    pub settled_more : (y : Bool) → y ≡ false → Some y ≡ settles goal (least_waiting r t) → labelled r marks runs goal b' (n + 1) t' ≡ labelled r marks runs goal b n t
    settled_more y is e = more_by y is (least_waiting r t) refl e
