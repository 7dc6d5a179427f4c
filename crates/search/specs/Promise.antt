-- What a plan promises where runs have costs that the questions let in. Assumes nothing.
use Rattle.std.specs.Prelude.{◌≡◌, ℕ, suc, ◌*◌, ◌<◌, ◌≤◌, cond, ◌⊎◌, List, [], ◌∷◌, length, take, Some, Ok, Err, Result, ◌==◌, slice_index}
use Rattle.network.specs.Costs.{Kind, AtMost}
use Rattle.network.specs.Layouts.{Layout, OpenSet, Joins, Outlet, cost_of}
use Rattle.network.specs.Bounds.{all_others}
use Rattle.theory.specs.Derivations.{LeastCost}
use Rattle.theory.specs.DreyfusWagner.{DreyfusWagner}
use Rattle.labelling.specs.Tables.{Tables, codes, code_of, least_waiting}
use Rattle.labelling.specs.Starts.{size_of, rule_of}
use Rattle.optimal.specs.Counting.{settled_to, JustOne}
use Rattle.optimal.specs.Theorems.{Settled}
use Rattle.search.specs.declared.answer.Plan.{Plan}
use Rattle.search.specs.declared.answer.NoPlan.{NoPlan}
use Rattle.search.specs.declared.answer.NoPlan.TheVariants.{Refused, Unjoined, Stopped}
use Rattle.search.specs.Planning.{priced_at, cost_at}

-- the numbers of the bytes that are 1, where the first byte has the number i
abbrev pub ones_from : ℕ → List ℕ → List ℕ
ones_from i [] = []
ones_from i (byte ∷ row) = cond (byte == 1) (i ∷ ones_from (suc i) row) (ones_from (suc i) row)

-- the runs that an answer row marks: of the runs laid those whose byte is 1, by rising number
abbrev pub marked : {K : Type 0} → Layout K → List ℕ → List ℕ
marked l row = ones_from 0 (take (length l.runs) row)

-- a network: a set of open runs that joins the outlets
pub record Network {K : Type 0} (l : Layout K) (S : List ℕ) : Type 0 where
  pub is_open : OpenSet l S
  pub joins : Joins l S (Outlet l)

-- every network costs at least c
abbrev pub Floor : {K : Type 0} → Kind K → Layout K → K → Type 0
Floor kind l c = (S : List ℕ) → Network l S → AtMost kind c (cost_of kind l S)

-- there is no network: the outlets cannot be joined
abbrev pub NoNetwork : {K : Type 0} → Layout K → Type 0
NoNetwork l = (S : List ℕ) → Network l S → ⊥

-- S is a cheapest network, and c is its cost
pub record CheapestNetwork {K : Type 0} (kind : Kind K) (l : Layout K) (S : List ℕ) (c : K) : Type 0 where
  pub network : Network l S
  pub costs : cost_of kind l S ≡ c
  pub least : Floor kind l c

-- a row that shows a cheapest network at the cost c: each run laid has a byte of 0 or 1, and those with a 1 are the network
pub record Shown {K : Type 0} (kind : Kind K) (l : Layout K) (row : List ℕ) (c : K) : Type 0 where
  pub bytes : (i : ℕ) → i < length l.runs → (slice_index row i ≡ 0) ⊎ (slice_index row i ≡ 1)
  pub cheapest : CheapestNetwork kind l (marked l row) c

-- a turn for each junction with each set of the other outlets that is not empty: N × (2^(k−1) − 1)
abbrev pub enough : {K : Type 0} → Layout K → ℕ
enough l = l.junctions * all_others l

-- a search that was stopped: after as many turns as the limit, which are fewer than enough; the floor is the least key
-- that waits in the label rows, and every network costs at least that
pub record Halted {K : Type 0} (kind : Kind K) (bound : ℕ → ℕ → K) (l : Layout K) (limit : ℕ) (t : Tables K) (count : ℕ) (floor : K) : Type 0 where
  pub at_limit : count ≡ limit
  pub too_few : limit < enough l
  pub waits : (c : ℕ) × (least_waiting (rule_of kind bound l) t ≡ Some (floor, c))
  pub bounds : Floor kind l floor

-- what an answer promises: a plan, that the row shows a cheapest network at its cost; 18, that there is no network;
-- 19, a floor; and once the questions are passed none of them refuses
abbrev pub Promised : {K : Type 0} → Kind K → (ℕ → ℕ → K) → Layout K → ℕ → Tables K → List ℕ → Result (Plan K) (NoPlan K) → Type 0
Promised kind bound l limit t row (Ok plan) = Shown kind l row plan.cost
Promised kind bound l limit t row (Err (Refused why)) = ⊥
Promised kind bound l limit t row (Err (Unjoined count)) = NoNetwork l
Promised kind bound l limit t row (Err (Stopped count floor)) = Halted kind bound l limit t count floor

-- the count of an answer
abbrev pub count_of : {K : Type 0} → Result (Plan K) (NoPlan K) → ℕ
count_of (Ok plan) = plan.count
count_of (Err (Refused why)) = 0
count_of (Err (Unjoined count)) = count
count_of (Err (Stopped count floor)) = count

-- the label rows after so many turns: each settled label (v, I) has the Dreyfus–Wagner cost, and that is the least cost of joining v
-- with the outlets of I; as many labels are settled as there were turns, one in each
pub record RightLabels {K : Type 0} (kind : Kind K) (l : Layout K) (t : Tables K) (count : ℕ) : Type 0 where
  pub recurs : (v I : ℕ) → Settled l t v I → DreyfusWagner kind l v I (cost_at kind t (code_of (size_of l) v I))
  pub least : (v I : ℕ) → Settled l t v I → LeastCost kind l v I (cost_at kind t (code_of (size_of l) v I))
  pub counted : settled_to t (codes (size_of l)) ≡ count
  pub in_turn : (i : ℕ) → 0 < i → i ≤ count → JustOne t (codes (size_of l)) i

-- the whole promise, of an answer with the label rows and the answer row that it left
pub record Right {K : Type 0} (kind : Kind K) (bound : ℕ → ℕ → K) (l : Layout K) (limit : ℕ) (t : Tables K) (row : List ℕ) (answer : Result (Plan K) (NoPlan K)) : Type 0 where
  pub answers : Promised kind bound l limit t row answer
  pub within : count_of answer ≤ limit
  -- one outlet is joined by no run, at no cost, after no turn, whatever the limit
  pub alone : length l.outlets ≡ 1 → answer ≡ priced_at kind.zero 0
  -- with enough turns 18 is answered wherever there is no network
  pub unjoined : enough l ≤ limit → NoNetwork l → answer ≡ Err (Unjoined (count_of answer))
  -- and a plan wherever there is one
  pub joined : enough l ≤ limit → (S : List ℕ) → Network l S → (plan : Plan K) × (answer ≡ Ok plan)
  pub labels : RightLabels kind l t (count_of answer)
