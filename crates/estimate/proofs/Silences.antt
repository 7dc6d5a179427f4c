-- The bound that is zero everywhere is lawful. Assumes nothing.
use Rattle.std.proofs.Common.{◌^◌, ◌≤◌, sym, refl, subst, arith}
use Rattle.network.specs.Costs.{Kind, Laws}
use Rattle.network.specs.Layouts.{Layout}
use Rattle.estimate.specs.Estimates.{Prepared, silent_bound}

pub silent_prepared : {K : Type 0} (kind : Kind K) → Laws kind → (l : Layout K) → Prepared kind l (silent_bound kind)
silent_prepared kind laws l = record {
  lawful = λ _. record {
    at_root = refl;
    along = λ v w I J S _ _ _ _. laws.least _;
    light = λ v I. subst (λ n. n ≤ 2 ^ 48) (sym laws.bulk_zero) (omega arith);
  };
  no_junction = λ v I _. refl;
  no_set = λ v I _. refl;
  no_outlet = λ v I _. refl;
}
