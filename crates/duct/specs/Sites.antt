-- The district at hand: what it is made of, and what it answers. Assumes nothing.
use Rattle.std.specs.Prelude.{◌≡◌, ℕ, min, cond, Some, None, Ok, Err, Option, Result, ◌==◌}
use Rattle.network.specs.declared.money.Money.{Money}
use Rattle.network.specs.declared.refusal.Refusal.{Refusal}
use Rattle.network.specs.Money.{money_kind, of_amount}
use Rattle.district.specs.Model.{Model, model_of, make_answer, lay_answer, after_lay, mark_answer, after_mark}
use Rattle.text.specs.declared.command.Call.{Call}
use Rattle.text.specs.declared.command.Call.TheVariants.{Lay, Mark, Plan, Dug}
use Rattle.duct.specs.declared.answer.Answer.{Answer}
use Rattle.duct.specs.declared.answer.Answer.TheVariants.{Made, Laid, Marked, Planned, Unplanned, Refused, Agrees, Differs, NotPlanned}
use Rattle.duct.specs.declared.site.Site.{Site}

-- the abstract district of a site
abbrev pub model : Site → Model Money
model s = model_of s.district

-- a site that was asked for: a fresh district with no plan, or why there is none; more than 4,097 places are never brought
abbrev pub Started : ℕ → ℕ → Result Site Refusal → Type 0
Started n capacity (Ok s) = (make_answer Money n (min capacity 4097) ≡ Ok (model s)) × (s.planned ≡ None)
Started n capacity (Err why) = make_answer Money n (min capacity 4097) ≡ Err why

-- what was paid for a trench, beside what was planned
abbrev pub compared : Option ℕ → ℕ → Answer
compared None cost = NotPlanned cost
compared (Some planned) cost = cond (planned == cost) (Agrees cost) (Differs cost planned)

abbrev pub lay_said : Result ℕ Refusal → Answer
lay_said (Ok run) = Laid run
lay_said (Err why) = Refused why

abbrev pub mark_said : ℕ → Result (Unit {0}) Refusal → Answer
mark_said j (Ok _) = Marked j
mark_said j (Err why) = Refused why

-- the cost that a plan's answer says, if it was not refused
abbrev pub cost_said : Answer → Option ℕ
cost_said (Planned cost row count) = Some cost
cost_said (Made n capacity) = None
cost_said (Laid run) = None
cost_said (Marked j) = None
cost_said (Unplanned why) = None
cost_said (Refused why) = None
cost_said (Agrees cost) = None
cost_said (Differs cost planned) = None
cost_said (NotPlanned cost) = None

-- what a call is answered, and the site after it
abbrev pub Answered : Site → Call → Answer → Site → Type 0
Answered s (Lay a b cost) r t =
    (r ≡ lay_said (lay_answer money_kind (model s) a b (of_amount cost))) × (model t ≡ after_lay money_kind (model s) a b (of_amount cost)) × (t.planned ≡ s.planned)
Answered s (Mark j) r t = (r ≡ mark_said j (mark_answer (model s) j)) × (model t ≡ after_mark (model s) j) × (t.planned ≡ s.planned)
Answered s (Plan said) r t = (model t ≡ model s) × (t.planned ≡ cost_said r)
Answered s (Dug cost) r t = (r ≡ compared s.planned cost) × (model t ≡ model s) × (t.planned ≡ s.planned)
