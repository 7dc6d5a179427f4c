use Rattle.std.proofs.Common.{◌≡◌, drop}
use Rattle.labelling.specs.Tables.{rule}
use Rattle.labelling.specs.Starts.{started, Within}
use Rattle.labelling.specs.Desks.{tables_on, Kept}
use Rattle.labelling.proofs.desk.Desk.offer_starts.Given as goal

abbrev pub invariant-loop-i : goal.invariant-loop-i
invariant-loop-i g l =
    let r = rule g.Q.Cost.Cost.kind (g.E.Estimator.bound l.initial.self.estimator) l.size in
    Kept r g.Q.Queue.waiting g.Q.Queue.ok g.Q.Queue.lender l.initial.self l.self
    × (started r l.i (drop l.i l.outlets) (tables_on l.self) ≡ started r 0 l.outlets (tables_on l.initial.self))
    × Within l.size.junctions (drop l.i l.outlets)
