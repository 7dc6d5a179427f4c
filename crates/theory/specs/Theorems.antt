-- The theorems, each for every layout. Assumes nothing.
use Rattle.std.specs.Prelude.{◌≡◌, ℕ, ◌*◌, ◌<◌, ◌≤◌, ◌≢◌, List, length, None}
use Rattle.network.specs.Costs.{Kind, AtMost}
use Rattle.network.specs.Layouts.{Layout, OpenSet, Joins, Outlet, cost_of, Priced}
use Rattle.network.specs.Bounds.{root, others, sets, all_others, Lawful}
use Rattle.theory.specs.Derivations.{Connects, Deriv, uses, Same, Cheapest, LeastCost}
use Rattle.theory.specs.Search.{Table, Settled, Waiting, Searched, Sound, Next, Turn, Starts}
use Rattle.theory.specs.DreyfusWagner.{DreyfusWagner}

-- what joins v with the outlets of I costs at least some derivation of (v, I)
abbrev pub Decomposes : {K : Type 0} → Kind K → Type 0
Decomposes {K} kind =
    (l : Layout K) (S : List ℕ) → OpenSet l S → (v I : ℕ) → I ≢ 0 → I < sets l → Connects l S v I
    → (c : K) × Deriv kind l v I c × (AtMost kind c (cost_of kind l S))

-- the runs of a derivation, each taken once, join v with the outlets of I and cost no more
abbrev pub Drawn : {K : Type 0} → Kind K → Type 0
Drawn {K} kind =
    (l : Layout K) (v I : ℕ) (c : K) (d : Deriv kind l v I c) (S : List ℕ) → OpenSet l S → Same S (uses d)
    → Connects l S v I × (AtMost kind (cost_of kind l S) c)

-- the runs of a derivation can be taken once each
abbrev pub Gathers : {K : Type 0} → Kind K → Type 0
Gathers {K} kind =
    (l : Layout K) (v I : ℕ) (c : K) (d : Deriv kind l v I c) → (S : List ℕ) × OpenSet l S × Same S (uses d)

-- a derivation is of a set that is not empty, and has none but outlets
abbrev pub DerivesSets : {K : Type 0} → Kind K → Type 0
DerivesSets {K} kind = (l : Layout K) (v I : ℕ) (c : K) → Deriv kind l v I c → (I ≢ 0) × (I < sets l)

-- a derivation of a label that is not settled costs, with the bound added, no less than some waiting label
abbrev pub FrontBounds : {K : Type 0} → Kind K → Type 0
FrontBounds {K} kind =
    (l : Layout K) (t : Table K) (bound : ℕ → ℕ → K) → Searched kind l t → Lawful kind l bound
    → (v I : ℕ) (c : K) → t.settled v I ≡ None → Deriv kind l v I c
    → (w J : ℕ) × (m : K) × Waiting t w J m × (AtMost kind (kind.plus m (bound w J)) (kind.plus c (bound v I)))

-- the next label is reached as cheaply as can be
abbrev pub Settles : {K : Type 0} → Kind K → Type 0
Settles {K} kind =
    (l : Layout K) (t : Table K) (bound : ℕ → ℕ → K) → Searched kind l t → Lawful kind l bound
    → (v I : ℕ) (c : K) → Next kind bound t v I c → (d : K) → Deriv kind l v I d → AtMost kind c d

-- a turn at the next label keeps what holds between turns
abbrev pub TurnKeeps : {K : Type 0} → Kind K → Type 0
TurnKeeps {K} kind =
    (l : Layout K) (t t' : Table K) (bound : ℕ → ℕ → K) → Searched kind l t → Lawful kind l bound
    → (v I : ℕ) (c : K) → Next kind bound t v I c → Turn kind l t t' v I c → Searched kind l t'

-- a search that starts with the outlets holds what it must
abbrev pub Begins : {K : Type 0} → Kind K → Type 0
Begins {K} kind = (l : Layout K) (t : Table K) → Starts kind l t → Searched kind l t × Sound kind l t

-- where the root with all others is settled at c, nothing joins all outlets for less,
-- and the runs of a derivation at c, each taken once, join them at exactly c
abbrev pub Best : {K : Type 0} → Kind K → Type 0
Best {K} kind =
    (l : Layout K) → 0 < others l → (t : Table K) → Searched kind l t → (c : K) → Settled t (root l) (all_others l) c
    → ((S : List ℕ) → OpenSet l S → Joins l S (Outlet l) → AtMost kind c (cost_of kind l S))
    × ((d : Deriv kind l (root l) (all_others l) c) (S : List ℕ) → OpenSet l S → Same S (uses d)
    → Joins l S (Outlet l) × (cost_of kind l S ≡ c))

-- where the root with all others is not settled, and no waiting label costs less than m with the bound added,
-- nothing joins all outlets for less than m
abbrev pub Floor : {K : Type 0} → Kind K → Type 0
Floor {K} kind =
    (l : Layout K) → 0 < others l → (t : Table K) (bound : ℕ → ℕ → K) → Searched kind l t → Lawful kind l bound
    → t.settled (root l) (all_others l) ≡ None
    → (m : K) → ((v I : ℕ) (c : K) → Waiting t v I c → AtMost kind m (kind.plus c (bound v I)))
    → (S : List ℕ) → OpenSet l S → Joins l S (Outlet l) → AtMost kind m (cost_of kind l S)

-- where nothing waits and the root with all others is not settled, nothing joins all outlets
abbrev pub Hopeless : {K : Type 0} → Kind K → Type 0
Hopeless {K} kind =
    (l : Layout K) → 0 < others l → (t : Table K) → Searched kind l t
    → ((v I : ℕ) (c : K) → Waiting t v I c → ⊥) → t.settled (root l) (all_others l) ≡ None
    → (S : List ℕ) → OpenSet l S → Joins l S (Outlet l) → ⊥

-- a settled cost that has a derivation is the least of any derivation, and the least cost of joining
abbrev pub SettledLeast : {K : Type 0} → Kind K → Type 0
SettledLeast {K} kind =
    (l : Layout K) (t : Table K) → Searched kind l t → (v I : ℕ) (c : K) → Settled t v I c → Deriv kind l v I c
    → Cheapest kind l v I c × LeastCost kind l v I c

-- the least cost of a derivation is the Dreyfus–Wagner cost, and there is no other
abbrev pub IsDreyfusWagner : {K : Type 0} → Kind K → Type 0
IsDreyfusWagner {K} kind =
    (l : Layout K) (v I : ℕ) (c : K) → Cheapest kind l v I c
    → DreyfusWagner kind l v I c × ((d : K) → DreyfusWagner kind l v I d → d ≡ c)

-- where runs have the costs that the questions let in, no set of open runs is bulkier than 1,000,000 for each run,
-- and neither is the least cost of a derivation
abbrev pub Light : {K : Type 0} → Kind K → Type 0
Light {K} kind =
    (l : Layout K) → Priced kind l.runs
    → ((S : List ℕ) → OpenSet l S → kind.bulk (cost_of kind l S) ≤ length l.runs * 1000000)
    × ((v I : ℕ) (c : K) → Cheapest kind l v I c → kind.bulk c ≤ length l.runs * 1000000)
