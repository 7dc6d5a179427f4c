use Rattle.std.proofs.Common.{◌≡◌, suc, ◌+◌, ◌-◌, Some, None, ap, ◌∙◌, arith}
use Rattle.labelling.specs.Tables.{rule, least_waiting}
use Rattle.labelling.specs.Turns.{took}
use Rattle.labelling.specs.Labelling.{ended, settles, stopped}
use Rattle.labelling.specs.Desks.{tables_on}
use Rattle.labelling.proofs.Desks.{kept_then, same_then}
use Rattle.labelling.proofs.Taking.{least_is}
use Rattle.labelling.proofs.Labels.{labelled_stop, settled_none, settled_finished, settled_more}
use Rattle.labelling.proofs.desk.Desk.take_turns.Goals as goal

pub returns-in_default-clause-same : goal.returns-in_default-clause-same
returns-in_default-clause-same g c =
    let d = c.args.self.now in
    let s = c.loop-turns.self in
    let t = tables_on s in
    let n = c.loop-turns.turns in
    let kind = g.Q.Cost.Cost.kind in
    let bound = g.E.Estimator.bound in
    let marks = c.args.view.now.open.now in
    let runs = c.args.view.now.runs.now in
    let inv = c.loop-turns.invariant in
    let e : c.args.limit - n ≡ suc (c.args.limit - (n + 1)) = omega (arith, c.loop-turns-test.true) in
    settled_none (rule kind (bound d.estimator) c.args.size) marks runs c.args.goal n t (c.args.limit - n) (c.args.limit - (n + 1)) e _
    (same_then kind c.args.size bound d s inv.0.estimator (λ r. took r marks runs c.args.goal (n + 1) t (least_waiting r t)) _ c.take_turn_towards.ensures.same)
    (same_then kind c.args.size bound d s inv.0.estimator (λ r. settles c.args.goal (least_waiting r t)) None c.in_default.ensures.answers)
    ∙ inv.1

pub returns-then-is_last-clause-same : goal.returns-then-is_last-clause-same
returns-then-is_last-clause-same g c =
    let d = c.args.self.now in
    let s = c.loop-turns.self in
    let t = tables_on s in
    let n = c.loop-turns.turns in
    let kind = g.Q.Cost.Cost.kind in
    let bound = g.E.Estimator.bound in
    let marks = c.args.view.now.open.now in
    let runs = c.args.view.now.runs.now in
    let inv = c.loop-turns.invariant in
    let e : c.args.limit - n ≡ suc (c.args.limit - (n + 1)) = omega (arith, c.loop-turns-test.true) in
    settled_finished (rule kind (bound d.estimator) c.args.size) marks runs c.args.goal n t (c.args.limit - n) (c.args.limit - (n + 1)) e _
    (same_then kind c.args.size bound d s inv.0.estimator (λ r. took r marks runs c.args.goal (n + 1) t (least_waiting r t)) _ c.take_turn_towards.ensures.same)
    c.in-Some.is_last c.if-is_last.true (same_then kind c.args.size bound d s inv.0.estimator (λ r. settles c.args.goal (least_waiting r t)) (Some c.in-Some.is_last) c.in-Some.ensures.answers)
    ∙ inv.1

pub loop-turns-preserved : goal.loop-turns-preserved
loop-turns-preserved g c =
    let d = c.args.self.now in
    let s = c.loop-turns.self in
    let t = tables_on s in
    let n = c.loop-turns.turns in
    let kind = g.Q.Cost.Cost.kind in
    let bound = g.E.Estimator.bound in
    let marks = c.args.view.now.open.now in
    let runs = c.args.view.now.runs.now in
    let inv = c.loop-turns.invariant in
    let e : c.args.limit - n ≡ suc (c.args.limit - (n + 1)) = omega (arith, c.loop-turns-test.true) in (
      kept_then bound d s inv.0 c.take_turn_towards.new.self c.take_turn_towards.ensures.kept,
      settled_more (rule kind (bound d.estimator) c.args.size) marks runs c.args.goal n t (c.args.limit - n) (c.args.limit - (n + 1)) e _
          (same_then kind c.args.size bound d s inv.0.estimator (λ r. took r marks runs c.args.goal (n + 1) t (least_waiting r t)) _ c.take_turn_towards.ensures.same)
          c.in-Some.is_last c.if-is_last.false (same_then kind c.args.size bound d s inv.0.estimator (λ r. settles c.args.goal (least_waiting r t)) (Some c.in-Some.is_last) c.in-Some.ensures.answers)
          ∙ inv.1,
      omega (arith, c.loop-turns-test.true),
    )

pub returns-clause-same : goal.returns-clause-same
returns-clause-same g c =
    let d = c.args.self.now in
    let s = c.loop-turns.self in
    let t = tables_on s in
    let n = c.loop-turns.turns in
    let r = rule g.Q.Cost.Cost.kind (g.E.Estimator.bound d.estimator) c.args.size in
    let marks = c.args.view.now.open.now in
    let runs = c.args.view.now.runs.now in
    let inv = c.loop-turns.invariant in
    let o = c.least.result in
    let none_left : c.args.limit - n ≡ 0 = omega (arith, c.loop-turns-test.false) in
    let all : c.args.limit ≡ n = omega (arith, c.loop-turns-test.false, inv.2) in
    ap (λ x. ended x c.args.limit t) c.stop.ensures
    ∙ ap (λ m. ended (stopped o) m t) all
    ∙ labelled_stop r marks runs c.args.goal n t (c.args.limit - n) o none_left (least_is r g.met.Q.Cost.Cost.laws t (g.Q.Queue.waiting s.queue) inv.0.fit.ready o c.least.ensures)
    ∙ inv.1
