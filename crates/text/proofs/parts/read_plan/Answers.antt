use Rattle.std.proofs.Common.{◌≡◌, None, rules}
use Rattle.text.specs.declared.command.PlanWords.{PlanWords}
use Rattle.text.specs.Commands.{unsaid}
use Rattle.text.proofs.parts.read_plan.Goals as goal

-- a plan of which nothing is said
nothing_said : (p : PlanWords) → (p.limit ≡ None) × ((p.queue ≡ None) × (p.estimator ≡ None)) → p ≡ unsaid
nothing_said p h = λ i. record { limit = h.0 i; queue = h.1.0 i; estimator = h.1.1 i }

pub returns-in_err-said : goal.returns-in_err-said
returns-in_err-said c = let h = nothing_said c.default.result c.default.ensures in search rules

pub returns : goal.returns
returns c = let h = nothing_said c.default.result c.default.ensures in search rules
