use Rattle.std.proofs.Common.{◌≡◌, drop}
use Rattle.district.specs.Model.{model_of}
use Rattle.linked.specs.Lists.{all_laid}
use Rattle.linked.proofs.calls.lay_all.Given as goal

abbrev pub invariant-loop-street : goal.invariant-loop-street
invariant-loop-street l = all_laid (drop l.street-index l.streets) (model_of l.district) ≡ all_laid l.streets (model_of l.initial.district)
