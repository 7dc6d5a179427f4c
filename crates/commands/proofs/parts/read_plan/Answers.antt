use Rattle.std.proofs.Common.{◌≡◌, None, rules}
use Rattle.commands.specs.declared.command.PlanWords.{PlanWords}
use Rattle.commands.specs.Commands.{unsaid}
use Rattle.commands.proofs.parts.read_plan.Goals as goal

-- a plan of which nothing is said
nothing_said : (p : PlanWords) → (p.limit ≡ None) × ((p.labels ≡ None) × ((p.room ≡ None) × ((p.row ≡ None) × ((p.places ≡ None) × ((p.queue ≡ None) × (p.estimator ≡ None)))))) → p ≡ unsaid
nothing_said p h = λ i. record { limit = h.0 i; labels = h.1.0 i; room = h.1.1.0 i; row = h.1.1.1.0 i; places = h.1.1.1.1.0 i; queue = h.1.1.1.1.1.0 i; estimator = h.1.1.1.1.1.1 i }

pub returns-in_err-said : goal.returns-in_err-said
returns-in_err-said c = let h = nothing_said c.default.result c.default.ensures in search rules

pub returns : goal.returns
returns c = let h = nothing_said c.default.result c.default.ensures in search rules
