-- The call that a line makes on its district. Assumes nothing.
use Rattle.std.specs.Prelude.{ℕ, ◌-◌, ◌/◌, ◌^◌, min, Some, None, Option}
use Rattle.network.specs.declared.money.Money.{Money}
use Rattle.network.specs.declared.crossings.CrossingsFirst.{CrossingsFirst}
use Rattle.network.specs.Money.{of_amount}
use Rattle.network.specs.Crossings.{of_parts}
use Rattle.commands.specs.declared.command.Figure.{Figure}
use Rattle.commands.specs.declared.command.Figure.TheVariants.{Money as InMoney, Crossings as InCrossings}
use Rattle.commands.specs.declared.command.EstimatorChoice.{EstimatorChoice}
use Rattle.commands.specs.declared.command.EstimatorChoice.TheVariants.{Silent, Farthest, Larger}
use Rattle.commands.specs.declared.command.PlanWords.{PlanWords}
use Rattle.commands.specs.declared.command.Call.{Call}
use Rattle.commands.specs.declared.command.Call.TheVariants.{Lay, Reprice, Close, Open, Mark, Unmark, Plan, Dug}
use Rattle.commands.specs.Commands.{bind}
use Rattle.requests.specs.Tools.{tools_of}
use Rattle.replay.specs.declared.turn.Allowance.{Allowance}
use Rattle.replay.specs.declared.turn.Call.{Call as Attempt}
use Rattle.replay.specs.declared.turn.Call.TheVariants.{Lay as Laying, Reprice as Repricing, Close as Closing, Open as Opening, Mark as Marking, Unmark as Unmarking, Plan as Planning}

-- money is written C
abbrev pub money_written : Figure → Option Money
money_written (InMoney n) = Some (of_amount n)
money_written (InCrossings x m) = None

-- crossings and money are written X+M
abbrev pub crossings_written : Figure → Option CrossingsFirst
crossings_written (InMoney n) = None
crossings_written (InCrossings x m) = Some (of_parts x m)

-- a number that a line says, up to a greatest one, or that one
abbrev pub up_to : Option ℕ → ℕ → ℕ
up_to None most = most
up_to (Some n) most = min n most

-- for how many junctions an estimator may be prepared: one for each twelve places that a line brings; silent needs none
abbrev pub spanned : EstimatorChoice → Option ℕ → ℕ
spanned Silent places = 2 ^ 64 - 1
spanned Farthest places = up_to places (2 ^ 64 - 1) / 12
spanned Larger places = up_to places (2 ^ 64 - 1) / 12

-- what a plan may take; what its line does not say is not bounded
abbrev pub allowance_of : PlanWords → Allowance
allowance_of said = record {
  limit = up_to said.limit (2 ^ 32 - 1);
  labels = up_to said.labels (2 ^ 64 - 1);
  codes = up_to said.room (2 ^ 64 - 1);
  junctions = spanned (tools_of said).estimator said.places;
}

-- what a plan that is not to be made may take
abbrev pub nothing : Allowance
nothing = record { limit = 0; labels = 0; codes = 0; junctions = 0 }

-- the call of a line, by how costs are written; none where it makes none, or says a cost of another kind
abbrev pub attempt_of : {K : Type 0} → (Figure → Option K) → Call → Option (Attempt K)
attempt_of written (Lay a b cost) = bind (written cost) (λ c. Some (Laying a b c))
attempt_of written (Reprice run cost) = bind (written cost) (λ c. Some (Repricing run c))
attempt_of written (Close run) = Some (Closing run)
attempt_of written (Open run) = Some (Opening run)
attempt_of written (Mark junction) = Some (Marking junction)
attempt_of written (Unmark junction) = Some (Unmarking junction)
attempt_of written (Plan said) = Some (Planning (allowance_of said))
attempt_of written (Dug cost) = None
