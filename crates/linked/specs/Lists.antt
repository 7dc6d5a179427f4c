-- A district from lists of streets and outlets, and what its plan tells C. Assumes nothing.
use Rattle.std.specs.Prelude.{◌≡◌, ℕ, min, List, [], ◌∷◌, length, Some, None, Ok, Err, Option, Result, MatchOption, MatchResult}
use Rattle.network.specs.declared.money.Money.{Money}
use Rattle.network.specs.Money.{money_kind}
use Rattle.network.specs.Numbers.{number_of}
use Rattle.district.specs.Model.{Model, make_answer, seen, after_lay, after_mark}
use Rattle.farthest.specs.Distances.{Far}
use Rattle.farthest.specs.Memories.{has_room}
use Rattle.search.specs.declared.answer.Plan.{Plan}
use Rattle.search.specs.declared.answer.NoPlan.{NoPlan}
use Rattle.search.specs.declared.answer.NoPlan.TheVariants.{Refused, Unjoined, Stopped}
use Rattle.replay.specs.Calls.{Desk}
use Rattle.replay.specs.Sequence.{Asked}
use Rattle.linked.specs.declared.kinds.Street.{Street}
use Rattle.linked.specs.declared.kinds.Found.{Found}
use Rattle.linked.specs.declared.unsolved.Unsolved.{Unsolved}
use Rattle.linked.specs.declared.unsolved.Unsolved.TheVariants.{Memory, NoPlan as Unplanned}

-- the district after the laying of each street in its order, taken or refused
abbrev pub all_laid : List Street → Model Money → Model Money
all_laid [] m = m
all_laid (s ∷ ss) m = all_laid ss (after_lay money_kind m s.a s.b (record { amount = s.cost }))

-- the district after the marking of each junction in its order, taken or refused
abbrev pub all_marked : List ℕ → Model Money → Model Money
all_marked [] m = m
all_marked (j ∷ js) m = all_marked js (after_mark m j)

-- what a plan is lent: so many places for labels and for codes, and distances for 1,024 junctions
abbrev pub desk_of : ℕ → Desk
desk_of places = record { labels = places; queue = min 4294967295 places; fits = has_room 12288 }

-- the answer of a plan; none where memory was missing
abbrev pub answer_of : Result (Plan Money) Unsolved → Option (Result (Plan Money) (NoPlan Money))
answer_of (Ok plan) = Some (Ok plan)
answer_of (Err (Unplanned why)) = Some (Err why)
answer_of (Err Memory) = None

-- the plan of the district of the streets and outlets by the heap and the farthest outlet, or the refusal of its making; where memory
-- was missing nothing was planned
abbrev pub Solved : ℕ → List Street → List ℕ → ℕ → ℕ → List ℕ → List ℕ → Result (Plan Money) Unsolved → Type 0
Solved n ss os limit places row row' said =
    MatchOption (answer_of said) (row' ≡ row)
    (λ answer. MatchResult (make_answer Money n (length ss))
    (λ m. Asked money_kind (Far money_kind) (desk_of places) (seen (all_marked os (all_laid ss m))) limit row row' answer)
    (λ why. (answer ≡ Err (Refused why)) × (row' ≡ row)))

-- an answer as C gets it
abbrev pub found_of : Result (Plan Money) Unsolved → Found
found_of (Ok plan) = record { cost = plan.cost.amount; count = plan.count; number = 0 }
found_of (Err Memory) = record { cost = 0; count = 0; number = 4294967295 }
found_of (Err (Unplanned (Refused why))) = record { cost = 0; count = 0; number = number_of why }
found_of (Err (Unplanned (Unjoined count))) = record { cost = 0; count = count; number = 18 }
found_of (Err (Unplanned (Stopped count floor))) = record { cost = floor.amount; count = count; number = 19 }

-- what C gets is such an answer
pub record Linked (n : ℕ) (ss : List Street) (os : List ℕ) (limit places : ℕ) (row row' : List ℕ) (found : Found) : Type 0 where
  pub said : Result (Plan Money) Unsolved
  pub tells : found ≡ found_of said
  pub solves : Solved n ss os limit places row row' said
