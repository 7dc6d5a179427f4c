-- What the lines of a district ask for. Assumes nothing.
use Rattle.std.specs.Prelude.{ℕ, ◌-◌, ◌*◌, ◌^◌, min, Bool, true, false, cond, List, count_by, Some, None, vec_len, Option}
use Rattle.std.specs.Option.{unwrap_or}
use Rattle.commands.specs.declared.command.Figure.{Figure}
use Rattle.commands.specs.declared.command.Call.{Call}
use Rattle.commands.specs.declared.command.Call.TheVariants.{Lay, Reprice, Close, Open, Mark, Unmark, Plan, Dug}
use Rattle.commands.specs.Commands.{bind}
use Rattle.replay.specs.declared.turn.Call.{Call as Attempt}
use Rattle.replay.specs.declared.turn.Call.TheVariants.{Lay as Laying, Reprice as Repricing, Close as Closing, Open as Opening, Mark as Marking, Unmark as Unmarking, Plan as Planning}
use Rattle.replay.specs.declared.turn.Turn.{Turn}
use Rattle.requests.specs.declared.tools.Tools.{Tools}
use Rattle.requests.specs.declared.requests.Request.{Request}
use Rattle.requests.specs.Tools.{same_tools, tools_of}
use Rattle.requests.specs.Attempts.{attempt_of, nothing}

-- with what a plan is made; none for any other call
abbrev pub named_by : Call → Option Tools
named_by (Lay a b cost) = None
named_by (Reprice run cost) = None
named_by (Close run) = None
named_by (Open run) = None
named_by (Mark junction) = None
named_by (Unmark junction) = None
named_by (Plan said) = Some (tools_of said)
named_by (Dug cost) = None

-- the answer row of a plan: what its line says, or a place for each call before it, at most 4,096
abbrev pub row_of : Call → ℕ → ℕ
row_of (Lay a b cost) before = 0
row_of (Reprice run cost) before = 0
row_of (Close run) before = 0
row_of (Open run) before = 0
row_of (Mark junction) before = 0
row_of (Unmark junction) before = 0
row_of (Plan said) before = min (unwrap_or said.row before) 4096
row_of (Dug cost) before = 0

-- what a line asks for after so many calls
abbrev pub request_of : {K : Type 0} → (Figure → Option K) → Call → ℕ → Option (Request K)
request_of written call before = bind (attempt_of written call) (λ a. Some (record { call = a; tools = named_by call; row = row_of call before }))

-- a call and its row, where it names these tools or is no plan; a plan that names others may take nothing
abbrev pub asked_by : {K : Type 0} → Tools → Attempt K → ℕ → Option Tools → Attempt K × ℕ
asked_by tools call row None = (call, row)
asked_by tools call row (Some named) = cond (same_tools named tools) (call, row) (Planning nothing, 0)

abbrev pub asked_of : {K : Type 0} → Tools → Request K → Attempt K × ℕ
asked_of tools r = asked_by tools r.call r.row r.tools

-- what a turn tries: its call, and how long its row is
abbrev pub shape : {K : Type 0} → Turn K → Attempt K × ℕ
shape t = (t.call, vec_len t.row)

-- whether a call marks an outlet
abbrev pub marks : {K : Type 0} → Attempt K → Bool
marks (Laying a b cost) = false
marks (Repricing run cost) = false
marks (Closing run) = false
marks (Opening run) = false
marks (Marking junction) = true
marks (Unmarking junction) = false
marks (Planning allowance) = false

-- how many calls mark an outlet
abbrev pub marks_in : {K : Type 0} → List (Request K) → ℕ
marks_in rs = count_by (λ r. marks r.call) rs

-- a label for each junction and each set that so many outlets, at most twelve, leave to the others
abbrev pub labels_for : {K : Type 0} → ℕ → List (Request K) → ℕ
labels_for junctions rs = junctions * 2 ^ (min (marks_in rs) 12 - 1)
