use Rattle.std.proofs.Common.{◌≡◌, drop}
use Rattle.lines.proofs.Counting.{read_on}
use Rattle.lines.proofs.digits.number.Given as goal

abbrev pub invariant-loop-b : goal.invariant-loop-b
invariant-loop-b l = read_on (drop l.b-index l.word) l.n ≡ read_on l.word 0
