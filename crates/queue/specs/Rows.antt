-- What waits in a row. Assumes nothing.
use Rattle.std.specs.Prelude.{ℕ, List, [], ◌∷◌, Option}
use Rattle.queue.specs.declared.row.Row.{Row}

-- each place holds what waits at its code
abbrev pub row_waits : {K : Type 0} → Row K → List (Option K)
row_waits q = q.places.now

-- the memory that a row was lent
abbrev pub row_lender : {K : Type 0} → Row K → List ℕ
row_lender q = q.places.ghost_name ∷ []
