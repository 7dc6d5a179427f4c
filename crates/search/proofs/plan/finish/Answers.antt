use Rattle.std.proofs.Common.{suc, ◌-◌, length, ap, ◌∙◌, arith, rules}
use Rattle.labelling.specs.Desks.{tables_on}
use Rattle.optimal.specs.Drawing.{drawn}
use Rattle.search.specs.Planning.{cost_at}
use Rattle.search.proofs.Plans.{filled}
use Rattle.search.proofs.plan.finish.Goals as goal

pub returns : goal.returns
returns g c =
    let enough = c.requires.turns in
    record {
      cost = ap (λ y. record { cost = y; count = c.args.turns }) (c.cost_of.ensures ∙ ap (cost_at g.Q.Cost.Cost.kind (tables_on c.args.desk.now)) c.code.ensures);
      row = c.mark_branch.ensures (suc c.args.turns) (omega arith) ∙ ap (drawn c.args.drawing.now.size c.args.drawing.now.runs.now c.args.drawing.now.ways.now (suc c.args.turns) c.args.root (c.args.drawing.now.size.sets - 1)) (filled (length c.args.drawing.now.runs.now) 0 c.args.answer.now c.fill.new.self c.requires.room (c.fill.ensures.after (search rules)));
    }
