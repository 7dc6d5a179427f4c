use Rattle.std.proofs.Common.{sym, refl, subst, arith, rules}
use Rattle.labelling.specs.declared.kinds.Back.TheVariants.{Run as ByRun, Fork}
use Rattle.search.proofs.Drawings.{Come, leads, at_start, at_run, at_fork}
use Rattle.search.proofs.draw.Drawing.+branch_fork.Goals as goal

pub mark_branch-loop-number-init : goal.mark_branch-loop-number-init
mark_branch-loop-number-init g t c = record { settled = c.requires.settled; falls = omega arith; long = refl; whole = refl }

pub mark_branch-returns-in-Start : goal.mark_branch-returns-in-Start
mark_branch-returns-in-Start g t c =
    let inv = c.loop-number.invariant in
    at_start c.args.self.now.size c.args.self.now.runs.now c.args.self.now.ways.now c.args.self.now.falls c.loop-number.v c.args.set inv.settled c.loop-number.answer c.args.from c.args.answer.now c.requires.settled inv c.in-Start.ensures

pub mark_branch-loop-number-preserved : goal.mark_branch-loop-number-preserved
mark_branch-loop-number-preserved g t c =
    let inv = c.loop-number.invariant in
    subst (λ row. Come c.args.self.now.size c.args.self.now.runs.now c.args.self.now.ways.now c.args.from c.args.set c.args.answer.now row c.far_end-v.result) (sym c.mark.ensures)
    (at_run c.args.self.now.size c.args.self.now.runs.now c.args.self.now.ways.now c.args.self.now.falls c.loop-number.v c.args.set inv.settled c.loop-number.answer c.args.from c.args.answer.now c.requires.settled inv c.in-Run.number c.far_end-v.result c.in-Run.ensures c.far_end-v.ensures)

pub mark_branch-mark-requires : goal.mark_branch-mark-requires
mark_branch-mark-requires g t c =
    let inv = c.loop-number.invariant in
    let h = leads c.args.self.now.size c.args.self.now.runs.now c.args.self.now.ways.now c.args.self.now.falls c.loop-number.v c.args.set inv.settled c.loop-number.answer (ByRun c.in-Run.number) c.in-Run.ensures in
    let long = inv.long in
    let room = c.requires.room in
    omega (arith, h.0)

pub mark_branch-mark_fork-requires : goal.mark_branch-mark_fork-requires
mark_branch-mark_fork-requires g t c κs within =
    let inv = c.loop-number.invariant in
    let h = leads c.args.self.now.size c.args.self.now.runs.now c.args.self.now.ways.now c.args.self.now.falls c.loop-number.v c.args.set inv.settled c.loop-number.answer (Fork c.in-Fork.part) c.in-Fork.ensures in
    let le = inv.falls in
    let long = inv.long in
    let room = c.requires.room in
    let noted = h.2 in
    let other = h.4 in
    let measured = c.decreases in (
      search rules,
      (within, (omega arith, (h.0, (h.1, h.3)))),
    )

pub mark_branch-returns-in-Fork : goal.mark_branch-returns-in-Fork
mark_branch-returns-in-Fork g t c =
    let inv = c.loop-number.invariant in
    at_fork c.args.self.now.size c.args.self.now.runs.now c.args.self.now.ways.now c.args.self.now.falls c.loop-number.v c.args.set inv.settled c.loop-number.answer c.args.from c.args.answer.now c.requires.settled inv c.in-Fork.part c.mark_fork.new.answer c.in-Fork.ensures c.mark_fork.ensures
