-- What a plan asks, answers and leaves. Assumes nothing.
use Rattle.std.specs.Prelude.{◌≡◌, ℕ, suc, ◌≤◌, Bool, cond, List, length, Ok, Err, None, Option, Result, ◌==◌, nat_lt, slice_index_or}
use Rattle.std.specs.Option.{unwrap_or}
use Rattle.network.specs.Costs.{Kind}
use Rattle.network.specs.Layouts.{Layout}
use Rattle.network.specs.Bounds.{root, all_others}
use Rattle.network.specs.declared.refusal.Refusal.{Refusal}
use Rattle.network.specs.declared.refusal.Refusal.TheVariants.{EstimatorFit, AnswerRow}
use Rattle.labelling.specs.declared.kinds.Size.{Size}
use Rattle.labelling.specs.declared.kinds.Outcome.{Outcome}
use Rattle.labelling.specs.declared.kinds.Outcome.TheVariants.{Finished, NoneWaits, Stopped}
use Rattle.labelling.specs.Tables.{Tables, Ready}
use Rattle.labelling.specs.Labelling.{Labelled}
use Rattle.labelling.specs.Starts.{size_of, rule_of, goal_of, wiped, labelling}
use Rattle.labelling.specs.Questions.{room_answer}
use Rattle.search.specs.declared.answer.Plan.{Plan}
use Rattle.search.specs.declared.answer.NoPlan.{NoPlan}
use Rattle.search.specs.declared.answer.NoPlan.TheVariants.{Unjoined, Stopped as AtLimit}
use Rattle.optimal.specs.Drawing.{drawn}
use Rattle.search.specs.Drawing.{turn_of, Settled, Falls}

-- the questions after the first: go on only after a "yes"
abbrev pub then_ask : {X Y : Type 0} → Result X Refusal → Result Y Refusal → Result Y Refusal
then_ask (Err why) next = Err why
then_ask (Ok x) next = next

-- 13 is an outlet marked, 14 has the label memory and 15 the queue a place for each label, 16 does the estimator fit,
-- 17 has the answer row a place for each run laid
abbrev pub questions : {K : Type 0} → Layout K → ℕ → ℕ → Bool → ℕ → Result Size Refusal
questions l places capacity fits row =
    then_ask (room_answer l places capacity)
    (cond fits (cond (nat_lt row (length l.runs)) (Err AnswerRow) (Ok (size_of l))) (Err EstimatorFit))

-- what a plan answers, and what the answer row holds then
pub record Planned (K : Type 0) : Type 0 where
  pub answer : Result (Plan K) (NoPlan K)
  pub row : List ℕ

-- a plan at this cost after so many turns
abbrev pub priced_at : {K : Type 0} → K → ℕ → Result (Plan K) (NoPlan K)
priced_at cost count = Ok (record { cost = cost; count = count })

-- a byte of 0 for each run laid
abbrev pub no_runs : {K : Type 0} → Layout K → List ℕ → List ℕ
no_runs l row = wiped (length l.runs) 0 row

-- a byte for each run laid: 1 if it is drawn from the root with all others, else 0
abbrev pub runs_drawn : {K : Type 0} → Layout K → Tables K → ℕ → List ℕ → List ℕ
runs_drawn l t count row = drawn (size_of l) l.runs t.ways (suc count) (root l) (all_others l) (no_runs l row)

-- the cost of the label at a code, or zero where it is not reached
abbrev pub cost_at : {K : Type 0} → Kind K → Tables K → ℕ → K
cost_at kind t c = unwrap_or (slice_index_or t.labels c None) kind.zero

-- by how the labelling ended: the cost of the root with all others and its runs, or no plan and the row as it was
abbrev pub ended_by : {K : Type 0} → Kind K → Layout K → Tables K → ℕ → Outcome K → List ℕ → Planned K
ended_by kind l t count Finished row =
    record { answer = priced_at (cost_at kind t (goal_of l)) count; row = runs_drawn l t count row }
ended_by kind l t count NoneWaits row = record { answer = Err (Unjoined count); row = row }
ended_by kind l t count (Stopped floor) row = record { answer = Err (AtLimit count floor); row = row }

-- one outlet is joined by no run at no cost, whatever the limit; else the labelling decides
abbrev pub concluded : {K : Type 0} → Kind K → Layout K → Labelled K → List ℕ → Planned K
concluded kind l x row =
    cond (length l.outlets == 1) (record { answer = priced_at kind.zero 0; row = no_runs l row })
    (ended_by kind l x.left x.ending.turns x.ending.outcome row)

-- the plan of a layout within a limit of turns
abbrev pub planned : {K : Type 0} → Kind K → (ℕ → ℕ → K) → Layout K → ℕ → Tables K → List ℕ → Planned K
planned kind bound l limit t row = concluded kind l (labelling kind bound l limit t) row

-- what a plan leaves once its questions are passed: its answer and the answer row, the label rows, and what waits in the queue
pub record Carried {K : Type 0} (kind : Kind K) (bound : ℕ → ℕ → K) (l : Layout K) (limit : ℕ) (before after : Tables K) (row : List ℕ) (waiting : List (Option K)) (p : Planned K) : Type 0 where
  pub plan : p ≡ planned kind bound l limit before row
  pub labels : after ≡ (labelling kind bound l limit before).left
  pub queue : Ready (rule_of kind bound l) after waiting

-- a search that ended with the root and all others settled can be drawn from there
pub record Drawable {K : Type 0} (l : Layout K) (t : Tables K) (count : ℕ) : Type 0 where
  pub falls : Falls (size_of l) l.runs t.ways
  pub settled : Settled (size_of l) l.runs t.ways (root l) (all_others l)
  pub turns : turn_of (size_of l) l.runs t.ways (root l) (all_others l) ≤ count
