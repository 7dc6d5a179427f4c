-- A case: calls on a fresh district, then a plan, and what comes out. Assumes nothing.
use Rattle.std.specs.Prelude.{◌≡◌, ℕ, zero, suc, ◌≤◌, Bool, true, cond, List, [], ◌∷◌, ◌++◌, length, drop, Ok, Err, MatchResult}
use Rattle.network.specs.Costs.{Kind}
use Rattle.network.specs.Layouts.{Layout}
use Rattle.network.specs.Numbers.{number_of}
use Rattle.district.specs.Model.{Model, seen, make_answer, has}
use Rattle.estimate.specs.Estimates.{Silence}
use Rattle.farthest.specs.Distances.{Far}
use Rattle.labelling.specs.Tables.{Tables, codes}
use Rattle.labelling.specs.Starts.{size_of}
use Rattle.search.specs.declared.answer.NoPlan.TheVariants.{Unjoined, Stopped}
use Rattle.search.specs.Planning.{Planned, questions, planned, priced_at}
use Rattle.replay.specs.declared.turn.Call.{Call}
use Rattle.replay.specs.Calls.{after}

-- the estimator that the plan is lent
pub data Estimator : Type 0 where
  silent : Estimator
  farthest : Estimator

-- the bounds that it may make of a layout, as its contract has them
abbrev pub Makes : {K : Type 0} → Kind K → Estimator → Layout K → (ℕ → ℕ → K) → Type 0
Makes kind silent l bound = Silence kind bound
Makes kind farthest l bound = Far kind l bound

-- what is to come out
pub data Expected (K : Type 0) : Type 0 where
  -- a plan: its cost, its runs by rising number, and the count of turns
  plan : K → List ℕ → ℕ → Expected K
  -- the question of this number is the first to be answered "no"
  refused : ℕ → Expected K
  -- 18, no label waits: the count
  unjoined : ℕ → Expected K
  -- 19, stopped at the limit: the count and the floor
  stopped : ℕ → K → Expected K

-- so many junctions and places for runs, the calls in their order, and then a plan by an estimator within a limit of turns
pub record Case (K : Type 0) : Type 0 where
  pub junctions : ℕ
  pub places : ℕ
  pub calls : List (Call K)
  pub estimator : Estimator
  pub limit : ℕ
  pub expected : Expected K

-- the district after the calls, each on what those before it have written
abbrev pub after_all : {K : Type 0} → Kind K → Model K → List (Call K) → Model K
after_all kind m [] = m
after_all kind m (call ∷ calls) = after_all kind (after kind m call) calls

-- a byte for each of n runs, the first of the number i: 1 where it is one of S, else 0
abbrev pub bytes : List ℕ → ℕ → ℕ → List ℕ
bytes S i zero = []
bytes S i (suc n) = cond (has i S) 1 0 ∷ bytes S (suc i) n

-- the answer row that shows S: a byte for each run laid, and the others as they were
abbrev pub row_with : {K : Type 0} → Layout K → List ℕ → List ℕ → List ℕ
row_with l S row = bytes S 0 (length l.runs) ++ drop (length l.runs) row

-- a plan of l comes to p, which may depend on what the answer row held
pub record Comes {K : Type 0} (kind : Kind K) (makes : (ℕ → ℕ → K) → Type 0) (l : Layout K) (limit : ℕ) (p : List ℕ → Planned K) : Type 0 where
  -- with a place for each label, a code of the queue for each, and a byte for each run laid, no question is answered "no"
  pub asked : (places capacity row : ℕ) → codes (size_of l) ≤ places → codes (size_of l) ≤ capacity → length l.runs ≤ row
      → questions l places capacity true row ≡ Ok (size_of l)
  -- there is a bound that the estimator may make
  pub some : (bound : ℕ → ℕ → K) × makes bound
  -- and by every such bound, whatever the label rows and the answer row held before and however long they were, the plan is p
  pub plans : (bound : ℕ → ℕ → K) → makes bound → (before : Tables K) (row : List ℕ) → planned kind bound l limit before row ≡ p row

-- the plan of a layout has the expected result
abbrev pub Gives : {K : Type 0} → Kind K → Estimator → Layout K → ℕ → Expected K → Type 0
Gives kind e l limit (plan cost runs count) = Comes kind (Makes kind e l) l limit (λ row. record { answer = priced_at cost count; row = row_with l runs row })
Gives kind e l limit (refused number) =
    (places capacity row : ℕ) (fits : Bool) → MatchResult (questions l places capacity fits row) (λ _. ⊥) (λ why. number_of why ≡ number)
Gives kind e l limit (unjoined count) = Comes kind (Makes kind e l) l limit (λ row. record { answer = Err (Unjoined count); row = row })
Gives kind e l limit (stopped count floor) = Comes kind (Makes kind e l) l limit (λ row. record { answer = Err (Stopped count floor); row = row })

-- the making is not refused, and after the calls the plan has the expected result
abbrev pub Holds : {K : Type 0} → Kind K → Case K → Type 0
Holds {K} kind c =
    MatchResult (make_answer K c.junctions c.places)
    (λ m. Gives kind c.estimator (seen (after_all kind m c.calls)) c.limit c.expected)
    (λ _. ⊥)

-- every case of a list holds
abbrev pub AllHold : {K : Type 0} → Kind K → List (Case K) → Type 0
AllHold kind [] = Unit {0}
AllHold kind (c ∷ cs) = Holds kind c × AllHold kind cs
