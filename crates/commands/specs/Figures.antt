-- Costs as they are written. Assumes nothing.
use Rattle.std.specs.Prelude.{ℕ, List, Some, None, Option}
use Rattle.commands.specs.declared.command.Figure.{Figure}
use Rattle.commands.specs.declared.command.Figure.TheVariants.{Money, Crossings}
use Rattle.lines.specs.Numbers.{number_of}
use Rattle.lines.specs.Words.{before, past}

-- an amount of money
abbrev pub money_of : Option ℕ → Option Figure
money_of None = None
money_of (Some n) = Some (Money n)

-- road crossings and money
abbrev pub crossings_of : Option ℕ → Option ℕ → Option Figure
crossings_of None m = None
crossings_of (Some x) None = None
crossings_of (Some x) (Some m) = Some (Crossings x m)

-- a cost, by what stands after a '+'
abbrev pub figured : List ℕ → Option (List ℕ) → Option Figure
figured w None = money_of (number_of w)
figured w (Some rest) = crossings_of (number_of (before 43 w)) (number_of rest)

-- C, or X+M
abbrev pub figure_of : List ℕ → Option Figure
figure_of w = figured w (past 43 w)
