use Rattle.std.proofs.Common.{◌<◌, refl, arith, rules}
use lib.Bits.{bit_or}
use Rattle.labelling.specs.Tables.{rule}
use Rattle.labelling.specs.Forks.{fork}
use Rattle.labelling.specs.Desks.{tables_on}
use Rattle.labelling.proofs.Desks.{kept_then, same_then}
use Rattle.labelling.proofs.Forking.{forks_first, forks_next}
use Rattle.labelling.proofs.desk.Desk.offer_forks.Goals as goal

pub next_apart-set-requires-in-loop-set : goal.next_apart-set-requires-in-loop-set
next_apart-set-requires-in-loop-set g c =
    let lt : bit_or c.loop-set.set c.args.from.set < c.args.size.sets = c.requires.closed c.loop-set.set c.args.from.set c.loop-set-test.true c.requires.outlets in
    record { apart = c.loop-set.invariant.2; room = search rules }

pub loop-set-init : goal.loop-set-init
loop-set-init g c =
    let d = c.args.self.now in
    let r = rule g.Q.Cost.Cost.kind (g.E.Estimator.bound d.estimator) c.args.size in
    let n = c.next_apart-set in (
      record { fit = c.requires.fit; lent = refl; estimator = refl },
      forks_first r c.args.from (tables_on d) n.result c.args.size.sets (omega (arith, c.requires.outlets)) n.ensures.rises n.ensures.skips,
      n.ensures.apart,
    )

pub loop-set-preserved : goal.loop-set-preserved
loop-set-preserved g c =
    let d = c.args.self.now in
    let s = c.loop-set.self in
    let r = rule g.Q.Cost.Cost.kind (g.E.Estimator.bound d.estimator) c.args.size in
    let inv = c.loop-set.invariant in
    let n = c.next_apart-set-in-loop-set in (
      kept_then g.E.Estimator.bound d s inv.0 c.offer_fork.new.self c.offer_fork.ensures.kept,
      forks_next r c.args.from (tables_on d) c.loop-set.set n.result c.args.size.sets _ _ c.loop-set-test.true n.ensures.rises n.ensures.skips inv.1
          (same_then g.Q.Cost.Cost.kind c.args.size g.E.Estimator.bound d s inv.0.estimator (λ x. fork x c.args.from c.loop-set.set (tables_on s)) _ c.offer_fork.ensures.same),
      n.ensures.apart,
    )
