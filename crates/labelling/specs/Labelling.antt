-- The labelling: turn after turn, at most so many. Assumes nothing.
use Rattle.std.specs.Prelude.{ℕ, zero, suc, ◌+◌, Bool, cond, List, Some, None, Option, ◌==◌}
use Rattle.labelling.specs.declared.kinds.Ending.{Ending}
use Rattle.labelling.specs.declared.kinds.Outcome.{Outcome}
use Rattle.labelling.specs.declared.kinds.Outcome.TheVariants.{Finished, NoneWaits, Stopped}
use Rattle.network.specs.declared.run.Run.{Run}
use Rattle.labelling.specs.Tables.{Rule, Tables, least_waiting}
use Rattle.labelling.specs.Turns.{settled, turned}

-- how the turns ended, and the tables then
pub record Labelled (K : Type 0) : Type 0 where
  pub ending : Ending K
  pub left : Tables K

abbrev pub ended : {K : Type 0} → Outcome K → ℕ → Tables K → Labelled K
ended o n t = record { ending = record { outcome = o; turns = n }; left = t }

-- with no turn left: the floor is the least key that waits
abbrev pub stopped : {K : Type 0} → Option (K × ℕ) → Outcome K
stopped None = NoneWaits
stopped (Some p) = Stopped p.0

-- with a turn left: none waits, or the turn is made at a code
abbrev pub made : {K : Type 0} → Option (K × ℕ) → Labelled K → (ℕ → Labelled K) → Labelled K
made None none some = none
made (Some p) none some = some p.1

-- whether the turn is made at the goal, where one is made
abbrev pub settles : {K : Type 0} → ℕ → Option (K × ℕ) → Option Bool
settles goal None = None
settles goal (Some p) = Some (p.1 == goal)

-- at most b more turns after the turn n, until the goal is settled; no candidate is tried in the turn that settles it
abbrev pub labelled : {K : Type 0} → Rule K → List Bool → List (Run K) → ℕ → ℕ → ℕ → Tables K → Labelled K
labelled r marks runs goal zero n t = ended (stopped (least_waiting r t)) n t
labelled r marks runs goal (suc b) n t =
    made (least_waiting r t) (ended NoneWaits n t)
    (λ c. cond (c == goal) (ended Finished (n + 1) (settled t c (n + 1))) (labelled r marks runs goal b (n + 1) (turned r marks runs (n + 1) t)))
