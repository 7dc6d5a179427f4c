use Rattle.std.proofs.Common.{List, [], ◌∷◌, vec_items, sym, subst}
use Rattle.std.proofs.lemmas.List.{take_more, take_all}
use Rattle.commands.specs.declared.command.EstimatorChoice.{EstimatorChoice}
use Rattle.commands.specs.declared.command.EstimatorChoice.TheVariants.{Silent, Farthest, Larger}
use Rattle.sheets.proofs.Reporting.{GrownWith, with_none, with_more, with_all}
use Rattle.sheets.proofs.trials.add_queue.Goals as goal

abbrev choices : List EstimatorChoice
choices = Silent ∷ Farthest ∷ Larger ∷ []

pub loop-estimator-init : goal.loop-estimator-init
loop-estimator-init g c = with_none g.K.Cost.kind c.args.sheet.now c.args.queue (vec_items c.args.trials.now)

pub loop-estimator-preserved : goal.loop-estimator-preserved
loop-estimator-preserved g c =
    let s = c.args.sheet.now in
    let before = vec_items c.args.trials.now in
    let now = vec_items c.loop-estimator.trials in
    let after = vec_items c.add_named.new.trials in
    subst (λ es. GrownWith g.K.Cost.kind s c.args.queue es before after) (sym (take_more choices c.loop-estimator.estimator-index _ c.loop-estimator-test.true))
    (with_more g.K.Cost.kind s c.args.queue _ _ before now after c.loop-estimator.invariant c.in_ok-add_named.ensures)

pub returns : goal.returns
returns g c =
    let s = c.args.sheet.now in
    let before = vec_items c.args.trials.now in
    let after = vec_items c.loop-estimator.trials in
    with_all g.K.Cost.kind s c.args.queue before after (subst (λ es. GrownWith g.K.Cost.kind s c.args.queue es before after) (take_all c.loop-estimator.estimator-index choices c.loop-estimator-test.false) c.loop-estimator.invariant)
