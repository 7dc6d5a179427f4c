use Rattle.std.proofs.Common.{◌≡◌, ◌-◌, ◌≤◌}
use Rattle.labelling.specs.Tables.{rule}
use Rattle.labelling.specs.Labelling.{labelled}
use Rattle.labelling.specs.Desks.{tables_on, Kept}
use Rattle.labelling.proofs.desk.Desk.take_turns.Given as goal

abbrev pub invariant-loop-turns : goal.invariant-loop-turns
invariant-loop-turns g l =
    let r = rule g.Q.Cost.Cost.kind (g.E.Estimator.bound l.initial.self.estimator) l.size in
    Kept r g.Q.Queue.waiting g.Q.Queue.ok g.Q.Queue.lender l.initial.self l.self
    × (labelled r l.view.open.now l.view.runs.now l.goal (l.limit - l.turns) l.turns (tables_on l.self) ≡ labelled r l.view.open.now l.view.runs.now l.goal l.limit 0 (tables_on l.initial.self))
    × (l.turns ≤ l.limit)
