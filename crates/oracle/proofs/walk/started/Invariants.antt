use Rattle.std.proofs.Common.{◌*◌, ◌≤◌, vec_len}
use Rattle.oracle.proofs.walk.started.Given as goal

abbrev pub invariant-loop-place : goal.invariant-loop-place
invariant-loop-place g l = vec_len l.walk.labels ≤ l.fn.survey.junctions * l.fn.survey.sets
