-- What the calls of a district got. Assumes nothing.
use Rattle.std.specs.Prelude.{◌≡◌, ℕ, ◌*◌, min, Bool, true, ◌&&◌, List, [], ◌∷◌, ◌++◌, map, Some, None, Ok, Err, vec_items, Option, Result, MatchResult}
use Rattle.network.specs.declared.refusal.Refusal.{Refusal}
use Rattle.network.specs.Costs.{Kind}
use Rattle.network.specs.Layouts.{Layout}
use Rattle.district.specs.Model.{Model, make_answer}
use Rattle.estimate.specs.Estimates.{Silence}
use Rattle.estimate.specs.Greater.{GreaterOf}
use Rattle.farthest.specs.Distances.{Far}
use Rattle.farthest.specs.Memories.{has_room}
use Rattle.commands.specs.declared.command.EstimatorChoice.{EstimatorChoice}
use Rattle.commands.specs.declared.command.EstimatorChoice.TheVariants.{Silent, Farthest, Larger}
use Rattle.commands.specs.declared.command.QueueChoice.{QueueChoice}
use Rattle.commands.specs.declared.command.QueueChoice.TheVariants.{Row, Heap}
use Rattle.replay.specs.declared.turn.Turn.{Turn}
use Rattle.replay.specs.Calls.{Desk, desk}
use Rattle.replay.specs.Sequence.{Replayed}
use Rattle.requests.specs.declared.tools.Tools.{Tools}
use Rattle.requests.specs.declared.requests.Request.{Request}
use Rattle.commands.specs.declared.command.Figure.{Figure}
use Rattle.commands.specs.declared.command.Call.{Call}
use Rattle.commands.specs.declared.command.Call.TheVariants.{Lay as Laying, Reprice as Repricing, Close as Closing, Open as Opening, Mark as Marking, Unmark as Unmarking, Plan as Planning, Dug as Digging}
use Rattle.sheets.specs.declared.sheet.Sheet.{Sheet}
use Rattle.sheets.specs.declared.sheet.Entry.{Entry}
use Rattle.sheets.specs.declared.sheet.Entry.TheVariants.{Asked, Dug, NotUnderstood}
use Rattle.sheets.specs.declared.sheet.Trial.{Trial}
use Rattle.requests.specs.Requests.{request_of, shape, asked_of, labels_for}

-- the bound that an estimator makes of a district
abbrev pub makes_of : {K : Type 0} → Kind K → EstimatorChoice → Layout K → (ℕ → ℕ → K) → Type 0
makes_of kind Silent l = Silence kind
makes_of kind Farthest l = Far kind l
makes_of kind Larger l = GreaterOf kind (Silence kind) (Far kind l)

-- which districts an estimator fits with so many places for distances
abbrev pub fits_of : EstimatorChoice → ℕ → ℕ → ℕ → Bool
fits_of Silent places n k = true
fits_of Farthest places n k = has_room places n k
fits_of Larger places n k = true && has_room places n k

-- what plans are lent: two label rows, a queue, and an estimator with places for distances
abbrev pub desk_for : ℕ → ℕ → ℕ → EstimatorChoice → ℕ → Desk
desk_for labels ways codes estimator places = desk labels ways codes (fits_of estimator places)

-- the codes that a queue over so many places has; a heap keeps them in 32 bits
abbrev pub queue_room : QueueChoice → ℕ → ℕ
queue_room Row places = places
queue_room Heap places = min 4294967295 places

-- every call of the turns was tried in its order on a fresh district, or the making was refused and nothing was tried
abbrev pub TriedBy : {K : Type 0} → Kind K → (Layout K → (ℕ → ℕ → K) → Type 0) → Desk → ℕ → ℕ → List (Turn K) → List (Turn K) → Result (Unit {0}) Refusal → Type 0
TriedBy {K} kind makes d n capacity ts ts' (Ok _) = (m : Model K) × (make_answer K n capacity ≡ Ok m) × Replayed kind makes d m ts ts'
TriedBy {K} kind makes d n capacity ts ts' (Err why) = (make_answer K n capacity ≡ Err why) × (ts' ≡ ts)

-- the same with tools, and with places for so many labels and distances
abbrev pub Tried : {K : Type 0} → Kind K → Tools → ℕ → ℕ → ℕ → ℕ → List (Turn K) → List (Turn K) → Result (Unit {0}) Refusal → Type 0
Tried kind tools labels places n capacity ts ts' made =
    TriedBy kind (makes_of kind tools.estimator) (desk_for labels labels (queue_room tools.queue labels) tools.estimator places) n capacity ts ts' made

-- a fresh sheet asks for nothing
pub record Fresh {K : Type 0} (n most : ℕ) (s : Sheet K) : Type 0 where
  pub junctions : s.junctions ≡ n
  pub capacity : s.capacity ≡ most
  pub lines : vec_items s.entries ≡ []
  pub none : vec_items s.requests ≡ []

-- what a line asks for, if anything
abbrev pub listed : {K : Type 0} → Option (Request K) → List (Request K)
listed None = []
listed (Some request) = request ∷ []

-- what was dug, in the district's kind of cost, or nothing that is understood there
abbrev pub dug_entry : {K : Type 0} → ℕ → Option K → Entry K
dug_entry line None = NotUnderstood line
dug_entry line (Some cost) = Dug line cost

-- the entry of a line that makes no call
abbrev pub other_entry : {K : Type 0} → (Figure → Option K) → ℕ → Call → Entry K
other_entry written line (Laying a b cost) = NotUnderstood line
other_entry written line (Repricing run cost) = NotUnderstood line
other_entry written line (Closing run) = NotUnderstood line
other_entry written line (Opening run) = NotUnderstood line
other_entry written line (Marking junction) = NotUnderstood line
other_entry written line (Unmarking junction) = NotUnderstood line
other_entry written line (Planning said) = NotUnderstood line
other_entry written line (Digging cost) = dug_entry line (written cost)

abbrev pub entered : {K : Type 0} → Option (Request K) → Entry K → Entry K → Entry K
entered None asked other = other
entered (Some request) asked other = asked

-- the entry of a line after so many calls
abbrev pub entry_of : {K : Type 0} → (Figure → Option K) → ℕ → Call → ℕ → Entry K
entry_of written line call before = entered (request_of written call before) (Asked line before) (other_entry written line call)

-- the same district, with the entry of one line more, and what that asks for
pub record Noted {K : Type 0} (s s' : Sheet K) (entry : Entry K) (request : Option (Request K)) : Type 0 where
  pub junctions : s'.junctions ≡ s.junctions
  pub capacity : s'.capacity ≡ s.capacity
  pub lines : vec_items s'.entries ≡ vec_items s.entries ++ entry ∷ []
  pub noted : vec_items s'.requests ≡ vec_items s.requests ++ listed request

-- what the lines of a sheet ask for was tried with tools: each call with its row, on a district over at most 4,097 places for runs, and
-- with as many labels and distances as the calls can need on at most 1,024 junctions
pub record SheetTried {K : Type 0} (kind : Kind K) (s : Sheet K) (tools : Tools) (t : Trial K) : Type 0 where
  pub with_tools : t.tools ≡ tools
  pub asked : List (Turn K)
  pub each : map shape asked ≡ map (asked_of tools) (vec_items s.requests)
  pub tried : MatchResult t.turns
      (λ turns. Tried kind tools (labels_for (min s.junctions 1024) (vec_items s.requests)) (min s.junctions 1024 * 12) s.junctions (min s.capacity 4097) asked (vec_items turns) (Ok tt))
      (λ untried. Tried kind tools (labels_for (min s.junctions 1024) (vec_items s.requests)) (min s.junctions 1024 * 12) s.junctions (min s.capacity 4097) asked (vec_items untried.turns) (Err untried.why))
