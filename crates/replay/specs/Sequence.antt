-- The whole promise: any sequence of calls on one district, each answered as it should be. Assumes nothing.
use Rattle.std.specs.Prelude.{◌≡◌, ℕ, List, [], ◌∷◌, length, Some, Ok, Err, vec_items, Result, MatchResult}
use Rattle.network.specs.Costs.{Kind}
use Rattle.network.specs.Layouts.{Layout}
use Rattle.network.specs.Bounds.{Lawful}
use Rattle.district.specs.Model.{Model, seen, make_answer, room_of, lay_answer, reprice_answer, close_answer, open_answer, mark_answer, unmark_answer}
use Rattle.district.specs.declared.district.Memory.{Memory}
use Rattle.district.specs.declared.district.Unmade.{Unmade}
use Rattle.labelling.specs.Tables.{Tables}
use Rattle.labelling.specs.Starts.{labelling}
use Rattle.search.specs.declared.answer.Plan.{Plan}
use Rattle.search.specs.declared.answer.NoPlan.{NoPlan}
use Rattle.search.specs.declared.answer.NoPlan.TheVariants.{Refused}
use Rattle.search.specs.Planning.{questions, planned as by-labelling}
use Rattle.search.specs.Promise.{Right}
use Rattle.replay.specs.declared.turn.Allowance.{Allowance}
use Rattle.replay.specs.declared.turn.Call.{Call}
use Rattle.replay.specs.declared.turn.Call.TheVariants.{Lay, Reprice, Close, Open, Mark, Unmark, Plan as Planning}
use Rattle.replay.specs.declared.turn.Reply.{Reply}
use Rattle.replay.specs.declared.turn.Turn.{Turn}
use Rattle.replay.specs.Calls.{Desk, allowed, after, laid, done, planned}

-- the same turn, with an answer
abbrev pub answered : {K : Type 0} → Turn K → Result (Reply K) (NoPlan K) → Turn K
answered t a = record { call = t.call; answer = Some a; row = t.row }

-- a plan of the layout l within a limit, past its questions: by a lawful bound, such as the estimator makes of l, answer and row are
-- those of the labelling, and they are right
pub record Sought {K : Type 0} (kind : Kind K) (makes : Layout K → (ℕ → ℕ → K) → Type 0) (l : Layout K) (limit : ℕ) (row row' : List ℕ) (answer : Result (Plan K) (NoPlan K)) : Type 0 where
  pub bound : ℕ → ℕ → K
  pub made : makes l bound
  pub lawful : Lawful kind l bound
  -- what the label rows held before
  pub was : Tables K
  pub labelled : record { answer = answer; row = row' } ≡ by-labelling kind bound l limit was row
  pub right : Right kind bound l limit (labelling kind bound l limit was).left row' answer

-- a plan of the layout l that was asked for: the first "no" of its questions, which leaves the row as found, or a plan sought
abbrev pub Asked : {K : Type 0} → Kind K → (Layout K → (ℕ → ℕ → K) → Type 0) → Desk → Layout K → ℕ → List ℕ → List ℕ → Result (Plan K) (NoPlan K) → Type 0
Asked kind makes desk l limit row row' answer =
    MatchResult (questions l desk.labels desk.queue (desk.fits l.junctions (length l.outlets)) (length row))
    (λ _. Sought kind makes l limit row row' answer)
    (λ why. (answer ≡ Err (Refused why)) × (row' ≡ row))

-- a call on the district m: each call but a plan answers by its questions alone, and leaves the row as found
abbrev pub Tried : {K : Type 0} → Kind K → (Layout K → (ℕ → ℕ → K) → Type 0) → Desk → Model K → List ℕ → List ℕ → Result (Reply K) (NoPlan K) → Call K → Type 0
Tried kind makes desk m row row' reply (Lay a b cost) = (reply ≡ laid (lay_answer kind m a b cost)) × (row' ≡ row)
Tried kind makes desk m row row' reply (Reprice run cost) = (reply ≡ done (reprice_answer kind m run cost)) × (row' ≡ row)
Tried kind makes desk m row row' reply (Close run) = (reply ≡ done (close_answer m run)) × (row' ≡ row)
Tried kind makes desk m row row' reply (Open run) = (reply ≡ done (open_answer m run)) × (row' ≡ row)
Tried kind makes desk m row row' reply (Mark junction) = (reply ≡ done (mark_answer m junction)) × (row' ≡ row)
Tried kind makes desk m row row' reply (Unmark junction) = (reply ≡ done (unmark_answer m junction)) × (row' ≡ row)
Tried {K} kind makes desk m row row' reply (Planning allowance) =
    (said : Result (Plan K) (NoPlan K)) × (reply ≡ planned said) × Asked kind makes (allowed desk allowance) (seen m) allowance.limit row row' said

-- a plan tried within its allowance
pub record PlanTried {K : Type 0} (kind : Kind K) (makes : Layout K → (ℕ → ℕ → K) → Type 0) (desk : Desk) (l : Layout K) (allowance : Allowance) (t t' : Turn K) : Type 0 where
  pub call : t'.call ≡ t.call
  pub said : Result (Plan K) (NoPlan K)
  pub answer : t'.answer ≡ Some (planned said)
  pub asked : Asked kind makes (allowed desk allowance) l allowance.limit (vec_items t.row) (vec_items t'.row) said

-- a turn on the district m before and after its call was tried: each call but a plan answers by its questions alone
abbrev pub ByCall : {K : Type 0} → Kind K → (Layout K → (ℕ → ℕ → K) → Type 0) → Desk → Model K → Turn K → Turn K → Call K → Type 0
ByCall kind makes desk m t t' (Lay a b cost) = t' ≡ answered t (laid (lay_answer kind m a b cost))
ByCall kind makes desk m t t' (Reprice run cost) = t' ≡ answered t (done (reprice_answer kind m run cost))
ByCall kind makes desk m t t' (Close run) = t' ≡ answered t (done (close_answer m run))
ByCall kind makes desk m t t' (Open run) = t' ≡ answered t (done (open_answer m run))
ByCall kind makes desk m t t' (Mark junction) = t' ≡ answered t (done (mark_answer m junction))
ByCall kind makes desk m t t' (Unmark junction) = t' ≡ answered t (done (unmark_answer m junction))
ByCall kind makes desk m t t' (Planning allowance) = PlanTried kind makes desk (seen m) allowance t t'

abbrev pub Answered : {K : Type 0} → Kind K → (Layout K → (ℕ → ℕ → K) → Type 0) → Desk → Model K → Turn K → Turn K → Type 0
Answered kind makes desk m t t' = ByCall kind makes desk m t t' t.call

-- a sequence of turns from the district m on: each call is answered on the district that the calls before it have written
pub data Replayed {K : Type 0} (kind : Kind K) (makes : Layout K → (ℕ → ℕ → K) → Type 0) (desk : Desk) : Model K → List (Turn K) → List (Turn K) → Type 0 where
  none : {m : Model K} → Replayed kind makes desk m [] []
  more : {m : Model K} {t t' : Turn K} {ts ts' : List (Turn K)} → Answered kind makes desk m t t' → Replayed kind makes desk (after kind m t.call) ts ts' → Replayed kind makes desk m (t ∷ ts) (t' ∷ ts')

-- what a replay leaves: a fresh district with all turns tried on it, or the refusal of the making, with everything as found
abbrev pub Outcome : {K : Type 0} → Kind K → (Layout K → (ℕ → ℕ → K) → Type 0) → Desk → ℕ → Memory K → List (Turn K) → List (Turn K) → Result (Memory K) (Unmade K) → Type 0
Outcome {K} kind makes desk n memory ts ts' (Ok _) = (m : Model K) × (make_answer K n (room_of memory) ≡ Ok m) × Replayed kind makes desk m ts ts'
Outcome {K} kind makes desk n memory ts ts' (Err u) = (make_answer K n (room_of memory) ≡ Err u.why) × (u.memory ≡ memory) × (ts' ≡ ts)
