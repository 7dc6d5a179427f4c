use Rattle.std.proofs.Common.{◌-◌, ◌<◌, length, Some, None, sym, ap, ◌∙◌, subst}
use Rattle.district.specs.Model.{layout_of}
use Rattle.labelling.specs.declared.kinds.Place.{Place}
use Rattle.labelling.specs.declared.kinds.Size.{Size}
use Rattle.labelling.specs.Tables.{rule}
use Rattle.labelling.specs.Runs.{runs_offered}
use Rattle.labelling.specs.Forks.{forks_offered}
use Rattle.labelling.specs.Turns.{place_at, took}
use Rattle.labelling.specs.Desks.{tables_on}
use Rattle.labelling.proofs.Desks.{same_then}
use Rattle.labelling.proofs.Starting.{closed_sets}
use Rattle.labelling.proofs.Taking.{least_is, taken_within, turn_done, took_last, took_more, junction_within, set_within}
use Rattle.labelling.proofs.desk.Desk.take_turn.Goals as goal

pub returns-in_err-taken-clause-answers : goal.returns-in_err-taken-clause-answers
returns-in_err-taken-clause-answers g c =
    let d = c.args.self.now in
    let r = rule g.Q.Cost.Cost.kind (g.E.Estimator.bound d.estimator) c.args.size in
    c.from_residual.ensures ∙ least_is r g.met.Q.Cost.Cost.laws (tables_on d) (g.Q.Queue.waiting d.queue) c.requires.fit.ready None c.in_err-taken.ensures.answers

pub returns-in_err-taken-clause-same : goal.returns-in_err-taken-clause-same
returns-in_err-taken-clause-same g c =
    let d = c.args.self.now in
    let r = rule g.Q.Cost.Cost.kind (g.E.Estimator.bound d.estimator) c.args.size in
    ap (took r c.args.view.now.open.now c.args.view.now.runs.now c.args.goal c.args.number (tables_on d))
    (least_is r g.met.Q.Cost.Cost.laws (tables_on d) (g.Q.Queue.waiting d.queue) c.requires.fit.ready None c.in_err-taken.ensures.answers)

pub offer_runs-requires-clause-outlets : goal.offer_runs-requires-clause-outlets
offer_runs-requires-clause-outlets g c =
    let d = c.args.self.now in
    let r = rule g.Q.Cost.Cost.kind (g.E.Estimator.bound d.estimator) c.args.size in
    let within = taken_within r g.met.Q.Cost.Cost.laws (tables_on d) (g.Q.Queue.waiting d.queue) c.requires.fit.ready _ _ c.in_ok-taken.ensures.answers.waits in
    subst (λ (x : Place _). x.set < c.args.size.sets) (sym (c.place_of-from.ensures r.bound)) (set_within c.args.size c.in_ok-taken.taken.1 within)

pub offer_forks-requires-clause-junction : goal.offer_forks-requires-clause-junction
offer_forks-requires-clause-junction g c =
    let d = c.args.self.now in
    let r = rule g.Q.Cost.Cost.kind (g.E.Estimator.bound d.estimator) c.args.size in
    let within = taken_within r g.met.Q.Cost.Cost.laws (tables_on d) (g.Q.Queue.waiting d.queue) c.requires.fit.ready _ _ c.in_ok-taken.ensures.answers.waits in
    subst (λ (x : Place _). x.v < c.args.size.junctions) (sym (c.place_of-from.ensures r.bound)) (junction_within c.args.size c.in_ok-taken.taken.1 within)

pub offer_forks-requires-clause-outlets : goal.offer_forks-requires-clause-outlets
offer_forks-requires-clause-outlets g c =
    let d = c.args.self.now in
    let r = rule g.Q.Cost.Cost.kind (g.E.Estimator.bound d.estimator) c.args.size in
    let within = taken_within r g.met.Q.Cost.Cost.laws (tables_on d) (g.Q.Queue.waiting d.queue) c.requires.fit.ready _ _ c.in_ok-taken.ensures.answers.waits in
    subst (λ (x : Place _). x.set < c.args.size.sets) (sym (c.place_of-from.ensures r.bound)) (set_within c.args.size c.in_ok-taken.taken.1 within)

pub offer_forks-requires-clause-closed : goal.offer_forks-requires-clause-closed
offer_forks-requires-clause-closed g c =
    closed_sets c.args.size.sets (length (layout_of c.args.view.now).outlets - 1) (ap (λ (s : Size). s.sets) c.requires.sized)

pub returns-then-code-goal-clause-answers : goal.returns-then-code-goal-clause-answers
returns-then-code-goal-clause-answers g c =
    let d = c.args.self.now in
    let r = rule g.Q.Cost.Cost.kind (g.E.Estimator.bound d.estimator) c.args.size in
    least_is r g.met.Q.Cost.Cost.laws (tables_on d) (g.Q.Queue.waiting d.queue) c.requires.fit.ready (Some c.in_ok-taken.taken) c.in_ok-taken.ensures.answers

pub returns-then-code-goal-clause-same : goal.returns-then-code-goal-clause-same
returns-then-code-goal-clause-same g c =
    let d = c.args.self.now in
    let r = rule g.Q.Cost.Cost.kind (g.E.Estimator.bound d.estimator) c.args.size in
    let e = least_is r g.met.Q.Cost.Cost.laws (tables_on d) (g.Q.Queue.waiting d.queue) c.requires.fit.ready (Some c.in_ok-taken.taken) c.in_ok-taken.ensures.answers in
    ap tables_on c.settle.ensures ∙ took_last r (tables_on d) c.args.view.now.open.now c.args.view.now.runs.now c.args.goal c.args.number c.in_ok-taken.taken e c.if-code-goal.true

pub returns-clause-answers : goal.returns-clause-answers
returns-clause-answers g c =
    let d = c.args.self.now in
    let r = rule g.Q.Cost.Cost.kind (g.E.Estimator.bound d.estimator) c.args.size in
    least_is r g.met.Q.Cost.Cost.laws (tables_on d) (g.Q.Queue.waiting d.queue) c.requires.fit.ready (Some c.in_ok-taken.taken) c.in_ok-taken.ensures.answers

pub returns-clause-same : goal.returns-clause-same
returns-clause-same g c =
    let d = c.args.self.now in
    let s = c.settle.new.self in
    let s1 = c.offer_runs.new.self in
    let bound = g.E.Estimator.bound in
    let r = rule g.Q.Cost.Cost.kind (bound d.estimator) c.args.size in
    let t = tables_on d in
    let ks = g.Q.Queue.waiting d.queue in
    let marks = c.args.view.now.open.now in
    let runs = c.args.view.now.runs.now in
    let p = c.in_ok-taken.taken in
    let h = c.in_ok-taken.ensures.answers in
    let from = c.place_of-from.result in
    let same = ap (λ x. x.estimator) c.settle.ensures in
    took_more r t marks runs c.args.goal c.args.number p (least_is r g.met.Q.Cost.Cost.laws t ks c.requires.fit.ready (Some p) h) c.if-code-goal.false _
    (turn_done r g.met.Q.Cost.Cost.laws t ks c.requires.fit.ready p h c.args.number marks runs from _ _
    (c.place_of-from.ensures r.bound ∙ ap (λ x. place_at r (tables_on x) p.1) c.settle.ensures)
    (same_then g.Q.Cost.Cost.kind c.args.size bound d s same (λ x. runs_offered x from marks 0 runs (tables_on s)) _ c.offer_runs.ensures.same ∙ ap (λ x. runs_offered r from marks 0 runs (tables_on x)) c.settle.ensures)
    (same_then g.Q.Cost.Cost.kind c.args.size bound d s1 (c.offer_runs.ensures.kept.estimator ∙ same) (λ x. forks_offered x from (tables_on s1)) _ c.offer_forks.ensures.same))
