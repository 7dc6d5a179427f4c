-- The worked cases, by kind of cost. Assumes nothing.
use Rattle.std.specs.Prelude.{ℕ, List, [], ◌∷◌, ◌++◌}
use Rattle.network.specs.declared.money.Money.{Money}
use Rattle.network.specs.declared.crossings.CrossingsFirst.{CrossingsFirst}
use Rattle.network.specs.Money.{of_amount, money_kind}
use Rattle.network.specs.Crossings.{of_parts, crossings_kind}
use Rattle.replay.specs.declared.turn.Call.{Call}
use Rattle.replay.specs.declared.turn.Call.TheVariants.{Lay, Reprice, Close, Mark}
use Rattle.cases.specs.Case.{Estimator, silent, farthest, Expected, plan, refused, unjoined, stopped, Case, AllHold}

-- a plan of a district of four junctions, with places for five runs
abbrev pub case : {K : Type 0} → List (Call K) → Estimator → ℕ → Expected K → Case K
case calls estimator limit expected = record { junctions = 4; places = 5; calls = calls; estimator = estimator; limit = limit; expected = expected }

-- ---- the district A

-- a run from junction 3 to each of 0, 1 and 2, and two more runs, from 0 to 1 and from 1 to 2
abbrev pub star : {K : Type 0} → K → K → K → List (Call K)
star each first second = Lay 0 3 each ∷ Lay 1 3 each ∷ Lay 2 3 each ∷ Lay 0 1 first ∷ Lay 1 2 second ∷ []

-- its runs, priced in money
abbrev pub a_runs : List (Call Money)
a_runs = star (of_amount 2) (of_amount 3) (of_amount 5)

-- the outlets 0, 1 and 2
abbrev pub three : {K : Type 0} → List (Call K)
three = Mark 0 ∷ Mark 1 ∷ Mark 2 ∷ []

abbrev pub A : List (Call Money)
A = a_runs ++ three

-- the same with a road crossed by each run to junction 3
abbrev pub a_crossing : List (Call CrossingsFirst)
a_crossing = star (of_parts 1 2) (of_parts 0 3) (of_parts 0 5) ++ three

-- ---- the district B

-- two ways from 1 to 0, over 2 and over 3; the outlets 0 and 1
abbrev pub B : List (Call Money)
B = Lay 1 2 (of_amount 1) ∷ Lay 2 0 (of_amount 10) ∷ Lay 1 3 (of_amount 3) ∷ Lay 3 0 (of_amount 3) ∷ Mark 0 ∷ Mark 1 ∷ []

-- ---- the cases

abbrev pub money_cases : List (Case Money)
money_cases =
    -- the three runs that meet at 3 are cheapest, found in as many turns as there can be
    case A silent 12 (plan (of_amount 6) (0 ∷ 1 ∷ 2 ∷ []) 12)
    -- the same runs by the farthest outlet, in half the turns
    ∷ case A farthest 12 (plan (of_amount 6) (0 ∷ 1 ∷ 2 ∷ []) 6)
    -- one turn too few: the floor is already the price
    ∷ case A silent 11 (stopped 11 (of_amount 6))
    -- after four turns the floor is half the price
    ∷ case A silent 4 (stopped 4 (of_amount 3))
    -- with no turn the floor is the least distance from outlet 1 or 2 to the outlet farthest from it
    ∷ case A farthest 0 (stopped 0 (of_amount 4))
    -- outlet 0 is cut off: every label of the other junctions is settled, and then none waits
    ∷ case (A ++ Close 0 ∷ Close 3 ∷ []) silent 9 (unjoined 9)
    -- one outlet is joined by no run at no cost, with no turn, by either estimator
    ∷ case (a_runs ++ Mark 0 ∷ []) silent 0 (plan (of_amount 0) [] 0)
    ∷ case (a_runs ++ Mark 0 ∷ []) farthest 0 (plan (of_amount 0) [] 0)
    -- no outlet is marked
    ∷ case a_runs silent 12 (refused 13)
    -- the way over 3 is cheaper
    ∷ case B farthest 4 (plan (of_amount 6) (2 ∷ 3 ∷ []) 3)
    -- run 1 repriced: now the way over 2 is
    ∷ case (B ++ Reprice 1 (of_amount 1) ∷ []) farthest 4 (plan (of_amount 2) (0 ∷ 1 ∷ []) 3)
    ∷ []

abbrev pub crossings_cases : List (Case CrossingsFirst)
crossings_cases =
    -- more money rather than a crossing, by either estimator
    case a_crossing silent 12 (plan (of_parts 0 8) (3 ∷ 4 ∷ []) 9)
    ∷ case a_crossing farthest 12 (plan (of_parts 0 8) (3 ∷ 4 ∷ []) 5)
    ∷ []

-- every case of both lists holds
abbrev pub CasesHold : Type 0
CasesHold = AllHold money_kind money_cases × AllHold crossings_kind crossings_cases
