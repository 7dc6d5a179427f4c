-- One turn, and the labelling. Assumes nothing.
use Rattle.std.specs.Prelude.{ℕ, ◌/◌, ◌%◌, Bool, cond, List, Some, None, Option, ◌==◌, slice_index_or, slice_set}
use Rattle.labelling.specs.declared.kinds.Place.{Place}
use Rattle.network.specs.declared.run.Run.{Run}
use Rattle.labelling.specs.Tables.{Rule, Tables, tables, label_cost, no_way, least_waiting}
use Rattle.labelling.specs.Runs.{runs_offered}
use Rattle.labelling.specs.Forks.{forks_offered}

-- the label at a code, as a place to go on from
abbrev pub place_at : {K : Type 0} → Rule K → Tables K → ℕ → Place K
place_at r t c = record { v = c / r.size.sets; set = c % r.size.sets; cost = label_cost r t c }

-- settled in the turn n
abbrev pub settled : {K : Type 0} → Tables K → ℕ → ℕ → Tables K
settled t c n = tables t.labels (slice_set t.ways c (record { turn = n; back = (slice_index_or t.ways c no_way).back }))

-- the code that was taken is settled, and its candidates are offered
abbrev pub turned_at : {K : Type 0} → Rule K → List Bool → List (Run K) → ℕ → Tables K → Option (K × ℕ) → Tables K
turned_at r marks runs n t None = t
turned_at r marks runs n t (Some p) =
    forks_offered r (place_at r t p.1) (runs_offered r (place_at r t p.1) marks 0 runs (settled t p.1 n))

-- the turn n, where it is not the last
abbrev pub turned : {K : Type 0} → Rule K → List Bool → List (Run K) → ℕ → Tables K → Tables K
turned r marks runs n t = turned_at r marks runs n t (least_waiting r t)

-- the turn n: the label that was taken is settled, and unless it is the goal its candidates are tried
abbrev pub took : {K : Type 0} → Rule K → List Bool → List (Run K) → ℕ → ℕ → Tables K → Option (K × ℕ) → Tables K
took r marks runs goal n t None = t
took r marks runs goal n t (Some p) = cond (p.1 == goal) (settled t p.1 n) (turned_at r marks runs n t (Some p))
