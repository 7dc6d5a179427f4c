use Rattle.std.proofs.Common.{◌≡◌, ◌-◌, min}
use lib.Bits.{bit_and}
use Rattle.labelling.specs.Tables.{rule}
use Rattle.labelling.specs.Forks.{forks_to}
use Rattle.labelling.specs.Desks.{tables_on, Kept}
use Rattle.labelling.proofs.desk.Desk.offer_forks.Given as goal

abbrev pub invariant-loop-set : goal.invariant-loop-set
invariant-loop-set g l =
    let r = rule g.Q.Cost.Cost.kind (g.E.Estimator.bound l.initial.self.estimator) l.size in
    Kept r g.Q.Queue.waiting g.Q.Queue.ok g.Q.Queue.lender l.initial.self l.self
    × (tables_on l.self ≡ forks_to r l.from (min l.set l.size.sets) (tables_on l.initial.self))
    × (bit_and l.from.set l.set ≡ 0)

abbrev pub decreases-loop-set : goal.decreases-loop-set
decreases-loop-set g l = l.size.sets - l.set
