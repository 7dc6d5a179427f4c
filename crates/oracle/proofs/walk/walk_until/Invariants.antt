use Rattle.std.proofs.Common.{◌*◌, ◌≤◌}
use Rattle.oracle.proofs.walk.walk_until.Given as goal

abbrev pub invariant-loop-turn : goal.invariant-loop-turn
invariant-loop-turn g l = (l.turns ≤ l._turn) × (l._turn-end ≤ l.fn.survey.junctions * l.fn.survey.sets)
