use Rattle.std.proofs.Common.{◌≡◌, length}
use Rattle.farthest.specs.Trials.{open_runs, rounds, round_arcs}
use Rattle.farthest.proofs.settle.settle.Given as goal

abbrev pub invariant-loop : goal.invariant-loop
invariant-loop g l = l.ds ≡ rounds g.K.Cost.kind l.counter (round_arcs (length l.view.outlets.now) (open_runs l.view.runs.now l.view.«open».now)) l.initial.ds
