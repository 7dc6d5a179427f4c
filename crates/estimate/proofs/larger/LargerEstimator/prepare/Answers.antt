use Rattle.std.proofs.Common.{refl}
use Rattle.district.specs.Model.{layout_of}
use Rattle.estimate.proofs.Greaters.{greater_prepared}
use Rattle.estimate.proofs.larger.LargerEstimator.prepare.Goals as goal

pub returns-clause-made : goal.returns-clause-made
returns-clause-made g c = λ e. record {
  first = g.A.Estimator.bound c.prepare.new.self;
  second = g.B.Estimator.bound c.prepare-2.new.self;
  first_made = c.prepare.ensures.made c.in_ok-prepare.was;
  second_made = c.prepare-2.ensures.made e;
  is = λ v I. refl;
}

pub returns-clause-lawful : goal.returns-clause-lawful
returns-clause-lawful g c = λ e. greater_prepared g.met.A.Cost.Cost.laws (layout_of c.args.view.now) (g.A.Estimator.bound c.prepare.new.self) (g.B.Estimator.bound c.prepare-2.new.self) (c.prepare.ensures.lawful c.in_ok-prepare.was) (c.prepare-2.ensures.lawful e)
