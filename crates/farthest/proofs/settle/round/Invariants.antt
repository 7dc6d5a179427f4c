use Rattle.std.proofs.Common.{◌≡◌, false, length, drop}
use Rattle.farthest.specs.Trials.{open_runs, applied, round_arcs}
use Rattle.farthest.proofs.settle.round.Given as goal

abbrev pub invariant-loop-run : goal.invariant-loop-run
invariant-loop-run g l =
    let i = length l.yielded in
    let k = length l.view.outlets.now in
    record {
      rest : applied g.K.Cost.kind (round_arcs k (open_runs (drop i l.view.runs.now) (drop i l.view.«open».now))) l.ds
          ≡ applied g.K.Cost.kind (round_arcs k (open_runs l.view.runs.now l.view.«open».now)) l.initial.ds;
      still : l.changed ≡ false → l.ds ≡ l.initial.ds;
    }
