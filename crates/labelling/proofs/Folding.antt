-- Inductions over the runs, the sets, the outlets and the turns of a labelling. Assumes nothing.
use Rattle.std.proofs.Common.{◌≡◌, ℕ, zero, suc, ◌+◌, ◌^◌, ◌<◌, ◌≤◌, Bool, false, cond, eqb, List, [], ◌∷◌, length, get_or, Some, None, Option, sym, refl, ap, ◌∙◌, subst, ⊎_elim, arith}
use Rattle.std.proofs.lemmas.Bool.{cases_Bool, cond-true, cond-false, eqb-true, eqb-false}
use Rattle.network.specs.declared.run.Run.{Run}
use Rattle.labelling.specs.declared.kinds.Back.TheVariants.{Start}
use Rattle.labelling.specs.declared.kinds.Place.{Place}
use Rattle.labelling.specs.declared.kinds.Outcome.TheVariants.{Finished, NoneWaits, Stopped}
use Rattle.labelling.specs.Tables.{Rule, Tables, least_waiting}
use Rattle.labelling.specs.Offers.{offered}
use Rattle.labelling.specs.Runs.{along, runs_offered}
use Rattle.labelling.specs.Forks.{fork, forks_to}
use Rattle.labelling.specs.Turns.{settled, turned}
use Rattle.labelling.specs.Starts.{started}
use Rattle.labelling.specs.Labelling.{Labelled, ended, stopped, made, labelled}

-- what holds before the first run, and is kept from each run to the next, holds after the last
module _ {K : Type 0} (r : Rule K) (from : Place K) (marks : List Bool) (runs : List (Run K)) (P : ℕ → Tables K → Type 0)
    (step : (i : ℕ) (x : Run K) (t : Tables K) → i < length runs → ((d : Run K) → get_or runs i d ≡ x) → P i t → P (i + 1) (along r from i (get_or marks i false) x t)) where
  runs_from : (i : ℕ) (xs : List (Run K)) → i + length xs ≡ length runs → ((j : ℕ) (d : Run K) → j < length xs → get_or runs (i + j) d ≡ get_or xs j d) → (t : Tables K) → P i t → P (length runs) (runs_offered r from marks i xs t)
  runs_from i [] e at t h = let q : i ≡ length runs = omega arith in subst (λ n. P n t) q h
  runs_from i (x ∷ xs) e at t h =
      runs_from (i + 1) xs (omega arith)
      (λ j d lt. let q : i + 1 + j ≡ i + suc j = omega arith in ap (λ n. get_or runs n d) q ∙ at (suc j) d (omega arith))
      (along r from i (get_or marks i false) x t)
      (step i x t (omega arith) (λ d. let q : i ≡ i + 0 = omega arith in ap (λ n. get_or runs n d) q ∙ at 0 d (omega arith)) h)

  pub runs_all_kept : (t : Tables K) → P 0 t → P (length runs) (runs_offered r from marks 0 runs t)
  runs_all_kept t h = runs_from 0 runs (omega arith) (λ j d lt. let q : 0 + j ≡ j = omega arith in ap (λ n. get_or runs n d) q) t h

-- the same of the sets at a junction
pub forks_all_kept : {K : Type 0} (r : Rule K) (from : Place K) (P : ℕ → Tables K → Type 0) (n : ℕ)
    → ((j : ℕ) (t : Tables K) → j < n → P j t → P (suc j) (fork r from j t)) → (t : Tables K) → P 0 t → P n (forks_to r from n t)
forks_all_kept r from P zero step t h = h
forks_all_kept r from P (suc n) step t h = step n (forks_to r from n t) (omega arith) (forks_all_kept r from P n (λ j s lt. step j s (omega arith)) t h)

-- the same of the outlets
module _ {K : Type 0} (r : Rule K) (outlets : List ℕ) (P : ℕ → Tables K → Type 0)
    (step : (i : ℕ) (t : Tables K) → i < length outlets → P i t → P (i + 1) (offered r t (record { v = get_or outlets i 0; set = 2 ^ i; cost = r.kind.zero }) Start)) where
  started_from : (i : ℕ) (xs : List ℕ) → i + length xs ≡ length outlets → ((j : ℕ) → j < length xs → get_or outlets (i + j) 0 ≡ get_or xs j 0) → (t : Tables K) → P i t → P (length outlets) (started r i xs t)
  started_from i [] e at t h = let q : i ≡ length outlets = omega arith in subst (λ n. P n t) q h
  started_from i (o ∷ os) e at t h =
      let q : i ≡ i + 0 = omega arith in
      let is-o : get_or outlets i 0 ≡ o = ap (λ n. get_or outlets n 0) q ∙ at 0 (omega arith) in
      started_from (i + 1) os (omega arith)
      (λ j lt. let q : i + 1 + j ≡ i + suc j = omega arith in ap (λ n. get_or outlets n 0) q ∙ at (suc j) (omega arith))
      (offered r t (record { v = o; set = 2 ^ i; cost = r.kind.zero }) Start)
      (subst (λ v. P (i + 1) (offered r t (record { v = v; set = 2 ^ i; cost = r.kind.zero }) Start)) is-o (step i t (omega arith) h))

  pub started_kept : (t : Tables K) → P 0 t → P (length outlets) (started r 0 outlets t)
  started_kept t h = started_from 0 outlets (omega arith) (λ j lt. let q : 0 + j ≡ j = omega arith in ap (λ n. get_or outlets n 0) q) t h

-- what each turn keeps holds at the end, and there are three ends
module _ {K : Type 0} (r : Rule K) (marks : List Bool) (runs : List (Run K)) (goal limit : ℕ) (P : ℕ → Tables K → Type 0) (Q : Labelled K → Type 0)
    (step : (n : ℕ) (t : Tables K) (p : K × ℕ) → P n t → n < limit → least_waiting r t ≡ Some p → (p.1 ≡ goal → ⊥) → P (n + 1) (turned r marks runs (n + 1) t))
    (finish : (n : ℕ) (t : Tables K) (p : K × ℕ) → P n t → n < limit → least_waiting r t ≡ Some p → p.1 ≡ goal → Q (ended Finished (n + 1) (settled t p.1 (n + 1))))
    (none : (n : ℕ) (t : Tables K) → P n t → n ≤ limit → least_waiting r t ≡ None → Q (ended NoneWaits n t))
    (stop : (n : ℕ) (t : Tables K) (p : K × ℕ) → P n t → n ≡ limit → least_waiting r t ≡ Some p → Q (ended (Stopped p.0) n t)) where
  pub labelled_ends : (b n : ℕ) (t : Tables K) → n + b ≡ limit → P n t → Q (labelled r marks runs goal b n t)
  labelled_ends zero n t e h = at_end (least_waiting r t) refl
    where
      at_end : (o : Option (K × ℕ)) → least_waiting r t ≡ o → Q (ended (stopped o) n t)
      at_end None w = none n t h (omega arith) w
      at_end (Some p) w = stop n t p h (omega arith) w
  labelled_ends (suc b) n t e h = at_turn (labelled_ends b (n + 1) (turned r marks runs (n + 1) t) (omega arith)) (least_waiting r t) refl
    where
      at_turn : (P (n + 1) (turned r marks runs (n + 1) t) → Q (labelled r marks runs goal b (n + 1) (turned r marks runs (n + 1) t))) → (o : Option (K × ℕ)) → least_waiting r t ≡ o → Q (made o (ended NoneWaits n t) (λ c. cond (eqb c goal) (ended Finished (n + 1) (settled t c (n + 1))) (labelled r marks runs goal b (n + 1) (turned r marks runs (n + 1) t))))
      at_turn on None w = none n t h (omega arith) w
      at_turn on (Some p) w =
          ⊎_elim
          (λ y. subst Q (sym (cond-true (eqb p.1 goal) _ _ y)) (finish n t p h (omega arith) w (eqb-true p.1 goal y)))
          (λ y. subst Q (sym (cond-false (eqb p.1 goal) _ _ y)) (on (step n t p h (omega arith) w (eqb-false p.1 goal y))))
          (cases_Bool (eqb p.1 goal))
