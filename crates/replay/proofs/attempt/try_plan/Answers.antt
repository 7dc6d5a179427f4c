use Rattle.std.proofs.Common.{ℕ, min, cond, leb, Ok, Err, Result, ap, ◌∙◌}
use Rattle.std.proofs.lemmas.Result.{err_from_is_err_and}
use Rattle.network.specs.declared.refusal.Refusal.{Refusal}
use Rattle.network.specs.declared.refusal.Refusal.TheVariants.{EstimatorFit}
use Rattle.labelling.specs.declared.kinds.Size.{Size}
use Rattle.labelling.specs.Starts.{size_of}
use Rattle.search.specs.Planning.{then_ask}
use Rattle.district.specs.Model.{layout_of}
use Rattle.labelling.specs.Questions.{room_answer}
use Rattle.labelling.specs.Desks.{tables_on}
use Rattle.replay.specs.Calls.{offered, allowed}
use Rattle.search.proofs.Standing.{stands_as_is}
use Rattle.replay.proofs.Trying.{asked_by, asked_within, asked_refused}
use Rattle.replay.proofs.attempt.try_plan.Goals as goal

pub returns : goal.returns
returns g c =
    let kind = g.Q.Cost.Cost.kind in
    let makes = g.E.Estimator.makes in
    let here = offered g.Q.Queue.waiting g.E.Estimator.within c.args.desk.now in
    let l = layout_of c.args.view.now in
    let asks : ℕ → ℕ → Result Size Refusal = λ p q. then_ask (room_answer l p q) (cond (leb l.junctions c.args.allowance.junctions) (Ok (size_of l)) (Err EstimatorFit)) in
    let limit = c.args.allowance.limit in
    let asked = asked_by kind makes here limit c.plan.result l c.args.row.now c.plan.new.answer (g.E.Estimator.bound c.plan.new.desk.estimator) (tables_on c.args.desk.now) (tables_on c.plan.new.desk) (g.Q.Queue.waiting c.plan.new.desk.queue) _ _ c.requires c.plan.ensures.plans in
    let places = c.min-places.ensures ∙ ap (λ n. min n c.args.allowance.labels) c.min.ensures in
    let codes = c.min-codes.ensures ∙ ap (λ n. min n c.args.allowance.codes) c.capacity.ensures in
    let room = c.in_ok-ask_within.ensures ∙ (ap (λ n. asks n c.min-codes.result) places ∙ ap (asks (allowed here c.args.allowance).labels) codes) in
    record {
      asks = asked_within kind makes here c.args.allowance l c.args.row.now c.plan.new.answer c.plan.result _ room asked;
      stands = c.plan.ensures.stands;
    }

pub returns-in_err-ask_within : goal.returns-in_err-ask_within
returns-in_err-ask_within g c =
    let here = offered g.Q.Queue.waiting g.E.Estimator.within c.args.desk.now in
    let l = layout_of c.args.view.now in
    let asks : ℕ → ℕ → Result Size Refusal = λ p q. then_ask (room_answer l p q) (cond (leb l.junctions c.args.allowance.junctions) (Ok (size_of l)) (Err EstimatorFit)) in
    let places = c.min-places.ensures ∙ ap (λ n. min n c.args.allowance.labels) c.min.ensures in
    let codes = c.min-codes.ensures ∙ ap (λ n. min n c.args.allowance.codes) c.capacity.ensures in
    let room = c.in_err-ask_within.ensures ∙ (ap (λ n. asks n c.min-codes.result) places ∙ ap (asks (allowed here c.args.allowance).labels) codes) in
    let refused = err_from_is_err_and c.from_residual.result c.from_residual.ensures.1 in
    record {
      asks = rw (refused.1, refused.2) (asked_refused g.Q.Cost.Cost.kind g.E.Estimator.makes here c.args.allowance l c.args.row.now c.in_err-ask_within.field-0.0 room);
      stands = stands_as_is g.Q.Queue.lender g.Q.Queue.waiting g.E.Estimator.lender g.E.Estimator.within c.args.desk.now;
    }
