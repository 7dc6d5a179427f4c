use Rattle.std.proofs.Common.{◌≡◌, drop}
use Rattle.district.specs.Model.{model_of}
use Rattle.linked.specs.Lists.{all_marked}
use Rattle.linked.proofs.calls.mark_all.Given as goal

abbrev pub invariant-loop-outlet : goal.invariant-loop-outlet
invariant-loop-outlet l = all_marked (drop l.outlet-index l.outlets) (model_of l.district) ≡ all_marked l.outlets (model_of l.initial.district)
