-- The candidates over the runs that end at a junction. Assumes nothing.
use Rattle.std.specs.Prelude.{ℕ, ◌+◌, ◌<◌, Bool, false, cond, List, [], ◌∷◌, Some, None, Option, ◌==◌, slice_index_or}
use Rattle.network.specs.declared.run.Run.{Run}
use Rattle.labelling.specs.declared.kinds.Back.TheVariants.{Run as ByRun}
use Rattle.labelling.specs.declared.kinds.Place.{Place}
use Rattle.labelling.specs.Tables.{Rule, sum_of, Tables}
use Rattle.labelling.specs.Offers.{offered}

-- where a run leads from v, if it ends at v
abbrev pub other_end : {K : Type 0} → Run K → ℕ → Option ℕ
other_end x v = cond (x.a == v) (Some x.b) (cond (x.b == v) (Some x.a) None)

-- the candidate at the junction w, at the cost with the run's
abbrev pub led : {K : Type 0} → Rule K → Tables K → Place K → ℕ → ℕ → Option K → Tables K
led r t from number w None = t
led r t from number w (Some k) = offered r t (record { v = w; set = from.set; cost = k }) (ByRun number)

-- the candidate at the run's other end, if it has one
abbrev pub along_to : {K : Type 0} → Rule K → Tables K → Place K → ℕ → Run K → Option ℕ → Tables K
along_to r t from number x None = t
along_to r t from number x (Some w) = led r t from number w (sum_of r from.cost x.cost)

-- the candidate over one run, if it is open
abbrev pub along : {K : Type 0} → Rule K → Place K → ℕ → Bool → Run K → Tables K → Tables K
along r from number mark x t = cond mark (along_to r t from number x (other_end x from.v)) t

-- the candidates over the open runs, in rising number
abbrev pub runs_offered : {K : Type 0} → Rule K → Place K → List Bool → ℕ → List (Run K) → Tables K → Tables K
runs_offered r from marks i [] t = t
runs_offered r from marks i (x ∷ xs) t =
    runs_offered r from marks (i + 1) xs (along r from i (slice_index_or marks i false) x t)

-- each run ends at two of n junctions
abbrev pub Ends : {K : Type 0} → ℕ → List (Run K) → Type 0
Ends n [] = Unit {0}
Ends n (x ∷ xs) = (x.a < n) × (x.b < n) × Ends n xs
