use Rattle.std.proofs.Common.{sym, subst, arith}
use Rattle.labelling.specs.declared.kinds.Outcome.TheVariants.{Finished}
use Rattle.labelling.specs.Desks.{tables_on}
use Rattle.district.specs.Model.{layout_of}
use Rattle.search.specs.Drawing.{Falls}
use Rattle.search.proofs.Plans.{concluded_else, finish_settled, finish_turns, finished_as}
use Rattle.search.proofs.plan.conclude.Goals as goal

pub invariant_of-drawing : goal.invariant_of-drawing
invariant_of-drawing g c =
    let places = c.requires.places in
    record {
      long = omega arith;
      falls = subst (λ s. Falls s c.args.view.now.runs.now c.args.desk.now.ways.now) (sym c.requires.size) (c.requires.drawable c.in-Finished.is).falls;
    }

pub finish-requires : goal.finish-requires
finish-requires g c =
    let l = layout_of c.args.view.now in
    let t = tables_on c.args.desk.now in
    let d = c.requires.drawable c.in-Finished.is in
    let places = c.requires.places in
    record {
      settled = finish_settled g.Q.Cost.Cost.kind l t c.args.ending.turns c.args.size c.requires.size d;
      turns = finish_turns g.Q.Cost.Cost.kind l t c.args.ending.turns c.args.size c.requires.size d;
      labels = omega arith;
      room = c.requires.room;
    }

pub returns-in-Finished : goal.returns-in-Finished
returns-in-Finished g c =
    let l = layout_of c.args.view.now in
    let t = tables_on c.args.desk.now in
    concluded_else g.Q.Cost.Cost.kind l (record { ending = c.args.ending; left = t }) c.args.answer.now c.if-view-eq1.false Finished c.in-Finished.is _
    (finished_as g.Q.Cost.Cost.kind l t c.args.ending.turns c.args.size c.requires.size c.finish.result c.args.answer.now c.finish.new.answer c.finish.ensures.cost c.finish.ensures.row)
