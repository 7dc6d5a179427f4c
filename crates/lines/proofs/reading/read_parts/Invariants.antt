use Rattle.std.proofs.Common.{◌≡◌, length}
use Rattle.lines.specs.Left.{words_left}
use Rattle.lines.specs.Reading.{parts}
use Rattle.lines.proofs.reading.read_parts.Given as goal

abbrev pub invariant-loop-name : goal.invariant-loop-name
invariant-loop-name g l = parts g.P.Parts.with_part (words_left l.line) l.said ≡ parts g.P.Parts.with_part (words_left l.initial.line) l.initial.said

abbrev pub decreases-loop-name : goal.decreases-loop-name
decreases-loop-name g l = length (words_left l.line)
