use Rattle.std.proofs.Common.{Ok, Err, sym, refl, ap, ◌∙◌, subst}
use Rattle.std.proofs.lemmas.Result.{err_from_is_err_and}
use Rattle.network.specs.Layouts.{Layout}
use Rattle.district.specs.Model.{model_of}
use Rattle.replay.specs.Calls.{after, allowed, offered}
use Rattle.replay.specs.Sequence.{Asked, Tried}
use Rattle.replay.proofs.attempt.try_call.Goals as goal

pub returns-in_ok-plan-in-Plan : goal.returns-in_ok-plan-in-Plan
returns-in_ok-plan-in-Plan g c =
    let kind = g.Q.Cost.Cost.kind in
    let makes = g.E.Estimator.makes in
    let m = model_of c.args.district.now in
    let here = offered g.Q.Queue.waiting g.E.Estimator.within c.args.desk.now in
    let a = c.in-Plan.allowance in
    let asked = subst (λ (l : Layout _). Asked kind makes (allowed here a) l a.limit c.args.row.now c.try_plan.new.row c.try_plan.result) c.view-view.ensures.shows c.try_plan.ensures.asks in
    record {
      writes = ap (after kind m) (sym c.in-Plan.is);
      answers = subst (Tried kind makes here m c.args.row.now c.try_plan.new.row _) (sym c.in-Plan.is) (Ok c.in_ok-plan-in-Plan.plan, refl, subst (Asked kind makes (allowed here a) _ a.limit c.args.row.now c.try_plan.new.row) c.in_ok-plan-in-Plan.was asked);
      stands = c.try_plan.ensures.stands;
    }

pub returns-in_err-plan-in-Plan : goal.returns-in_err-plan-in-Plan
returns-in_err-plan-in-Plan g c =
    let kind = g.Q.Cost.Cost.kind in
    let makes = g.E.Estimator.makes in
    let m = model_of c.args.district.now in
    let here = offered g.Q.Queue.waiting g.E.Estimator.within c.args.desk.now in
    let a = c.in-Plan.allowance in
    let asked = subst (λ (l : Layout _). Asked kind makes (allowed here a) l a.limit c.args.row.now c.try_plan.new.row c.try_plan.result) c.view-view.ensures.shows c.try_plan.ensures.asks in
    let refused = err_from_is_err_and c.from_residual-in_err-plan-in-Plan.result c.from_residual-in_err-plan-in-Plan.ensures.1 in
    record {
      writes = ap (after kind m) (sym c.in-Plan.is);
      answers = subst (Tried kind makes here m c.args.row.now c.try_plan.new.row _) (sym c.in-Plan.is) (Err c.in_err-plan-in-Plan.field-0.0, refused.1 ∙ ap Err refused.2, subst (Asked kind makes (allowed here a) _ a.limit c.args.row.now c.try_plan.new.row) c.in_err-plan-in-Plan.was asked);
      stands = c.try_plan.ensures.stands;
    }
