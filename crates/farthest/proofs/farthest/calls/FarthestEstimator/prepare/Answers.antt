use Rattle.district.specs.Model.{layout_of}
use Rattle.farthest.proofs.Prepared.{facts_of, prepared_far, prepared}
use Rattle.farthest.proofs.farthest.calls.FarthestEstimator.prepare.Goals as goal

pub returns-clause-made : goal.returns-clause-made
returns-clause-made g c =
    let V = c.args.view.now in
    λ _. prepared_far g.met.K.Cost.laws (layout_of V) c.measure.new.row V.twelve c.measure.ensures (facts_of g.K.Cost.kind (layout_of V) V.twelve V.few V.ends V.inside)

pub returns-clause-lawful : goal.returns-clause-lawful
returns-clause-lawful g c =
    let V = c.args.view.now in
    λ _. prepared g.met.K.Cost.laws (layout_of V) c.measure.new.row V.twelve c.measure.ensures (facts_of g.K.Cost.kind (layout_of V) V.twelve V.few V.ends V.inside)
