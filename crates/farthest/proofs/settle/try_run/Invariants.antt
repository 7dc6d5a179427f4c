use Rattle.std.proofs.Common.{◌≡◌, false}
use Rattle.farthest.specs.Trials.{applied, run_arcs}
use Rattle.farthest.proofs.settle.try_run.Given as goal

abbrev pub invariant-loop-j : goal.invariant-loop-j
invariant-loop-j g l =
    (l.ds ≡ applied g.K.Cost.kind (run_arcs l.j l.run) l.initial.ds)
    × (l.changed ≡ false → l.ds ≡ l.initial.ds)
