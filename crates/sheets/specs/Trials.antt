-- The calls of a sheet, tried with each pair of tools that its plans name. Assumes nothing.
use Rattle.std.specs.Prelude.{◌≡◌, Bool, true, false, List, [], ◌∷◌, Some, None, vec_items, Option}
use Rattle.std.specs.List.{list_any}
use Rattle.network.specs.Costs.{Kind}
use Rattle.commands.specs.declared.command.QueueChoice.{QueueChoice}
use Rattle.commands.specs.declared.command.EstimatorChoice.{EstimatorChoice}
use Rattle.requests.specs.declared.tools.Tools.{Tools}
use Rattle.requests.specs.declared.requests.Request.{Request}
use Rattle.sheets.specs.declared.sheet.Sheet.{Sheet}
use Rattle.sheets.specs.declared.sheet.Trial.{Trial}
use Rattle.requests.specs.Tools.{same_tools}
use Rattle.sheets.specs.Sheets.{SheetTried}

-- a plan that names these tools
abbrev pub names : Tools → Option Tools → Bool
names tools None = false
names tools (Some named) = same_tools named tools

-- whether some plan names these tools
abbrev pub named_in : {K : Type 0} → Tools → List (Request K) → Bool
named_in tools rs = list_any (λ r. names tools r.tools) rs

-- each is what the calls of the sheet got with its tools
abbrev pub EachTried : {K : Type 0} → Kind K → Sheet K → List (Trial K) → Type 0
EachTried kind s [] = Unit {0}
EachTried kind s (t ∷ ts) = SheetTried kind s t.tools t × EachTried kind s ts

-- whether what was tried with these tools reports what a call got: a plan by its own tools, any other call by whichever
abbrev pub reporting : Option Tools → Tools → Bool
reporting None tried = true
reporting (Some named) tried = same_tools named tried

-- no trial reports it
abbrev pub NoneReports : {K : Type 0} → Option Tools → List (Trial K) → Type 0
NoneReports tools [] = Unit {0}
NoneReports tools (t ∷ ts) = (reporting tools t.tools ≡ false) × NoneReports tools ts

-- some trial reports it
abbrev pub SomeReports : {K : Type 0} → Option Tools → List (Trial K) → Type 0
SomeReports tools ts = NoneReports tools ts → ⊥

-- trials of a sheet, and no fewer calls reported than by those that there were
pub record Grown {K : Type 0} (kind : Kind K) (s : Sheet K) (ts ts' : List (Trial K)) : Type 0 where
  pub each : EachTried kind s ts → EachTried kind s ts'
  pub kept : (tools : Option Tools) → SomeReports tools ts → SomeReports tools ts'

-- the same with one trial more, with these tools
pub record Added {K : Type 0} (kind : Kind K) (s : Sheet K) (tools : Tools) (ts ts' : List (Trial K)) : Type 0 where
  pub grown : Grown kind s ts ts'
  pub calls : SomeReports None ts'
  pub plans : SomeReports (Some tools) ts'

-- a plan that names these tools is reported, if there is one
abbrev pub Reported : {K : Type 0} → Sheet K → List (Trial K) → Tools → Type 0
Reported s ts tools = named_in tools (vec_items s.requests) ≡ true → SomeReports (Some tools) ts

-- the trials have grown, and report what plans with these tools got
pub record GrownBy {K : Type 0} (kind : Kind K) (s : Sheet K) (tools : Tools) (ts ts' : List (Trial K)) : Type 0 where
  pub grown : Grown kind s ts ts'
  pub reports : Reported s ts' tools

-- the same for one queue and each estimator
pub record GrownFor {K : Type 0} (kind : Kind K) (s : Sheet K) (queue : QueueChoice) (ts ts' : List (Trial K)) : Type 0 where
  pub grown : Grown kind s ts ts'
  pub reports : (e : EstimatorChoice) → Reported s ts' (record { queue = queue; estimator = e })

-- each trial is what the calls of the sheet got with its tools, and every plan is reported
pub record Named {K : Type 0} (kind : Kind K) (s : Sheet K) (ts : List (Trial K)) : Type 0 where
  pub each : EachTried kind s ts
  pub plans : (tools : Tools) → Reported s ts tools

-- the trials of a sheet: each is what its calls got with its tools, and every call is reported, a plan by its own tools
pub record Trials {K : Type 0} (kind : Kind K) (s : Sheet K) (ts : List (Trial K)) : Type 0 where
  pub each : EachTried kind s ts
  pub calls : SomeReports None ts
  pub plans : (tools : Tools) → Reported s ts tools
