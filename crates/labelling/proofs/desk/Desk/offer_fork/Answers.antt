use Rattle.std.proofs.Common.{Some, None, ◌∙◌, arith}
use Rattle.labelling.specs.Tables.{rule}
use Rattle.labelling.specs.Desks.{tables_on}
use Rattle.labelling.proofs.Offering.{code_within}
use Rattle.labelling.proofs.Forking.{fork_joined}
use Rattle.labelling.proofs.desk.Desk.offer_fork.Goals as goal

pub bounds-self-code : goal.bounds-self-code
bounds-self-code g c =
    let lt = code_within c.args.size c.args.from.v c.args.set c.requires.junction c.requires.others in
    omega (arith, lt, c.code-code.ensures, c.requires.fit.ready.ways_long)

pub cost_at-other-requires : goal.cost_at-other-requires
cost_at-other-requires g c =
    let lt = code_within c.args.size c.args.from.v c.args.set c.requires.junction c.requires.others in
    omega (arith, lt, c.code-code.ensures, c.requires.fit.ready.labels_long)

pub returns-in-Some-clause-same : goal.returns-in-Some-clause-same
returns-in-Some-clause-same g c =
    let r = rule g.Q.Cost.Cost.kind (g.E.Estimator.bound c.args.self.now.estimator) c.args.size in
    let t = tables_on c.args.self.now in
    c.offer.ensures.same ∙ fork_joined r t c.args.from c.args.set c.code-code.result c.cost_at-other.result (Some c.in-Some.cost) c.code-code.ensures c.if-set-eq0.false c.if-from-set-ne0.false c.if-self-code-eq0.false c.cost_at-other.ensures c.in-Some.ensures

pub returns-in_default-clause-same : goal.returns-in_default-clause-same
returns-in_default-clause-same g c =
    let r = rule g.Q.Cost.Cost.kind (g.E.Estimator.bound c.args.self.now.estimator) c.args.size in
    let t = tables_on c.args.self.now in
    fork_joined r t c.args.from c.args.set c.code-code.result c.cost_at-other.result None c.code-code.ensures c.if-set-eq0.false c.if-from-set-ne0.false c.if-self-code-eq0.false c.cost_at-other.ensures c.in_default.ensures
