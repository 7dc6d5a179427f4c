-- What a plan needs and may take. Assumes nothing.
use Rattle.std.specs.Prelude.{ℕ, ◌-◌, ◌*◌, ◌^◌, min, Some, None, Ok, Err, Option, Result}
use Rattle.network.specs.declared.refusal.Refusal.{Refusal}
use Rattle.network.specs.Layouts.{Layout}
use Rattle.labelling.specs.declared.kinds.Size.{Size}
use Rattle.labelling.specs.Tables.{codes}
use Rattle.labelling.specs.Questions.{room_answer}
use Rattle.duct.specs.declared.planner.Scope.{Scope}

-- N × (2^(k−1) − 1) turns settle every label
abbrev pub all_turns : Size → ℕ
all_turns size = size.junctions * (size.sets - 1)

-- the limit that a line says, up to 32 bits, or all turns
abbrev pub allowed : Option ℕ → ℕ → ℕ
allowed None all = all
allowed (Some n) all = min n (2 ^ 32 - 1)

-- N × 2^(k−1) labels; nothing where the questions about them are answered "no" whatever the memory
abbrev pub scope_by : Option ℕ → Result Size Refusal → Scope
scope_by limit (Ok size) = record { labels = codes size; turns = allowed limit (all_turns size) }
scope_by limit (Err why) = record { labels = 0; turns = allowed limit 0 }

abbrev pub scoped : {K : Type 0} → Layout K → Option ℕ → Scope
scoped l limit = scope_by limit (room_answer l (2 ^ 64 - 1) (2 ^ 64 - 1))
