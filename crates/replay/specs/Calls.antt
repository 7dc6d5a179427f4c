-- What each call writes into the abstract district, and how it answers. Assumes nothing.
use Rattle.std.specs.Prelude.{ℕ, min, Bool, ◌&&◌, List, length, Ok, Err, Option, Result, nat_le}
use Rattle.network.specs.Costs.{Kind}
use Rattle.network.specs.declared.refusal.Refusal.{Refusal}
use Rattle.district.specs.Model.{Model, after_lay, after_reprice, after_close, after_open, after_mark, after_unmark}
use Rattle.labelling.specs.declared.desk.Desk.{Desk as LentDesk}
use Rattle.search.specs.declared.answer.Plan.{Plan}
use Rattle.search.specs.declared.answer.NoPlan.{NoPlan}
use Rattle.search.specs.declared.answer.NoPlan.TheVariants.{Refused}
use Rattle.replay.specs.declared.turn.Allowance.{Allowance}
use Rattle.replay.specs.declared.turn.Call.{Call}
use Rattle.replay.specs.declared.turn.Call.TheVariants.{Lay, Reprice, Close, Open, Mark, Unmark, Plan as Planning}
use Rattle.replay.specs.declared.turn.Reply.{Reply}
use Rattle.replay.specs.declared.turn.Reply.TheVariants.{Laid, Done, Planned}

-- what plans are lent: places for labels, codes of the queue, and which districts the estimator fits
pub record Desk : Type 0 where
  pub labels : ℕ
  pub queue : ℕ
  pub fits : ℕ → ℕ → Bool

-- the desk of two label rows, a queue and an estimator: the shorter row has the places for labels
abbrev pub desk : ℕ → ℕ → ℕ → (ℕ → ℕ → Bool) → Desk
desk labels ways queue fits = record { labels = min labels ways; queue = queue; fits = fits }

-- what a desk of those offers, where the first two arguments are the members `waiting` of its queue and `within` of its estimator
abbrev pub offered : {K Q E : Type 0} → (Q → List (Option K)) → (E → ℕ → ℕ → Bool) → LentDesk Q E K → Desk
offered waiting within d = desk (length d.labels.now) (length d.ways.now) (length (waiting d.queue)) (within d.estimator)

-- what a plan may use of the desk
abbrev pub allowed : Desk → Allowance → Desk
allowed d a = record {
  labels = min d.labels a.labels;
  queue = min d.queue a.codes;
  fits = λ n k. d.fits n k && nat_le n a.junctions;
}

-- the district after a call, taken or refused, as the call's arguments write it; a plan writes nothing
abbrev pub after : {K : Type 0} → Kind K → Model K → Call K → Model K
after kind m (Lay a b cost) = after_lay kind m a b cost
after kind m (Reprice run cost) = after_reprice kind m run cost
after kind m (Close run) = after_close m run
after kind m (Open run) = after_open m run
after kind m (Mark junction) = after_mark m junction
after kind m (Unmark junction) = after_unmark m junction
after kind m (Planning allowance) = m

-- the number of the run laid, or the first "no"
abbrev pub laid : {K : Type 0} → Result ℕ Refusal → Result (Reply K) (NoPlan K)
laid (Ok run) = Ok (Laid run)
laid (Err why) = Err (Refused why)

-- done, or the first "no"
abbrev pub done : {K : Type 0} → Result (Unit {0}) Refusal → Result (Reply K) (NoPlan K)
done (Ok _) = Ok Done
done (Err why) = Err (Refused why)

-- the plan, or why there is none
abbrev pub planned : {K : Type 0} → Result (Plan K) (NoPlan K) → Result (Reply K) (NoPlan K)
planned (Ok plan) = Ok (Planned plan)
planned (Err why) = Err why
