-- That a labelling is right, for every layout, every lawful bound and every limit of turns. Assumes nothing.
use Rattle.std.specs.Prelude.{◌≡◌, ℕ, ◌-◌, ◌*◌, ◌<◌, ◌≤◌, List, length, Some, ◌≢◌}
use Rattle.network.specs.Costs.{Kind, AtMost}
use Rattle.network.specs.Layouts.{Layout, OpenSet, Joins, Outlet, cost_of, Priced}
use Rattle.network.specs.Bounds.{root, sets, all_others, Lawful}
use Rattle.theory.specs.Derivations.{Deriv, uses, Same, LeastCost}
use Rattle.theory.specs.DreyfusWagner.{DreyfusWagner}
use Rattle.labelling.specs.declared.kinds.Outcome.TheVariants.{Finished, NoneWaits, Stopped}
use Rattle.labelling.specs.Tables.{exactly, Tables, codes, code_of, label_cost, turn_at, least_waiting}
use Rattle.labelling.specs.Runs.{Ends}
use Rattle.labelling.specs.Starts.{size_of, rule_of, labelling_by, labelling, Within}
use Rattle.labelling.specs.Labelling.{Labelled}
use Rattle.optimal.specs.Drawing.{drawn, Shows}
use Rattle.optimal.specs.Counting.{settled_to, JustOne}

-- a layout that can be searched: runs end at junctions, at most 4,096 runs, and at least two outlets, which are junctions
pub record WellFormed {K : Type 0} (l : Layout K) : Type 0 where
  pub ends : Ends l.junctions l.runs
  pub few : length l.runs ≤ 4096
  pub several : 2 ≤ length l.outlets
  pub inside : Within l.junctions l.outlets

-- what a labelling starts from: such a layout, with costs that the questions let in, a lawful bound, and a place for each label
pub record Given {K : Type 0} (kind : Kind K) (l : Layout K) (bound : ℕ → ℕ → K) (t : Tables K) : Type 0 where
  pub formed : WellFormed l
  pub priced : Priced kind l.runs
  pub lawful : Lawful kind l bound
  pub labels : codes (size_of l) ≤ length t.labels
  pub ways : codes (size_of l) ≤ length t.ways

-- the cost of the label (v, I)
abbrev pub cost_at : {K : Type 0} → Kind K → (ℕ → ℕ → K) → Layout K → Tables K → ℕ → ℕ → K
cost_at kind bound l t v I = (label_cost (rule_of kind bound l) t (code_of (size_of l) v I))

-- the label (v, I) is settled
pub record Settled {K : Type 0} (l : Layout K) (t : Tables K) (v I : ℕ) : Type 0 where
  pub junction : v < l.junctions
  pub outlets : I < sets l
  pub turned : turn_at t (code_of (size_of l) v I) ≡ 0 → ⊥

-- no sum inside a labelling is ever none
abbrev pub Exact : {K : Type 0} → Kind K → Type 0
Exact {K} kind =
    (l : Layout K) (bound : ℕ → ℕ → K) (t : Tables K) → Given kind l bound t → (limit : ℕ)
    → labelling kind bound l limit t ≡ labelling_by (exactly (rule_of kind bound l)) l limit t

-- each settled label has the Dreyfus–Wagner cost, and that is the least cost of joining its junction with its outlets
abbrev pub SettlesRight : {K : Type 0} → Kind K → Type 0
SettlesRight {K} kind =
    (l : Layout K) (bound : ℕ → ℕ → K) (t : Tables K) → Given kind l bound t → (limit : ℕ)
    → (v I : ℕ) → Settled l (labelling kind bound l limit t).left v I
    → DreyfusWagner kind l v I (cost_at kind bound l (labelling kind bound l limit t).left v I)
    × LeastCost kind l v I (cost_at kind bound l (labelling kind bound l limit t).left v I)

-- a plan at the cost c: no set of open runs that joins the outlets costs less; the ways back lead along a derivation,
-- whose runs are what is drawn; and these, each taken once, join the outlets and cost just c
pub record Plan {K : Type 0} (kind : Kind K) (l : Layout K) (x : Labelled K) (c : K) : Type 0 where
  pub least : (S : List ℕ) → OpenSet l S → Joins l S (Outlet l) → AtMost kind c (cost_of kind l S)
  pub derived : Deriv kind l (root l) (all_others l) c
  pub shown : (n : ℕ) (row : List ℕ) → x.ending.turns ≤ n → Shows (uses derived) row (drawn (size_of l) l.runs x.left.ways n (root l) (all_others l) row)
  pub joins : (S : List ℕ) → OpenSet l S → Same S (uses derived) → Joins l S (Outlet l) × (cost_of kind l S ≡ c)

-- a labelling that finished has settled the root with all others in its last turn, and found a plan
abbrev pub FinishesBest : {K : Type 0} → Kind K → Type 0
FinishesBest {K} kind =
    (l : Layout K) (bound : ℕ → ℕ → K) (t : Tables K) → Given kind l bound t → (limit : ℕ)
    → (labelling kind bound l limit t).ending.outcome ≡ Finished
    → (turn_at (labelling kind bound l limit t).left (code_of (size_of l) (root l) (all_others l)) ≡ (labelling kind bound l limit t).ending.turns)
    × Plan kind l (labelling kind bound l limit t) (cost_at kind bound l (labelling kind bound l limit t).left (root l) (all_others l))

-- a labelling that stopped has made as many turns as the limit; its floor is the least key that waits, and whatever joins costs that at least
abbrev pub StopsBelow : {K : Type 0} → Kind K → Type 0
StopsBelow {K} kind =
    (l : Layout K) (bound : ℕ → ℕ → K) (t : Tables K) → Given kind l bound t → (limit : ℕ)
    → (k : K) → (labelling kind bound l limit t).ending.outcome ≡ Stopped k
    → ((labelling kind bound l limit t).ending.turns ≡ limit)
    × ((c : ℕ) × (least_waiting (rule_of kind bound l) (labelling kind bound l limit t).left ≡ Some (k, c)))
    × ((S : List ℕ) → OpenSet l S → Joins l S (Outlet l) → AtMost kind k (cost_of kind l S))

-- where none waits at the end, no set of open runs joins the outlets
abbrev pub NoneJoins : {K : Type 0} → Kind K → Type 0
NoneJoins {K} kind =
    (l : Layout K) (bound : ℕ → ℕ → K) (t : Tables K) → Given kind l bound t → (limit : ℕ)
    → (labelling kind bound l limit t).ending.outcome ≡ NoneWaits → (S : List ℕ) → OpenSet l S → Joins l S (Outlet l) → ⊥

-- with a turn for each junction and set that is not empty a labelling is never stopped, and where nothing joins the outlets none waits
abbrev pub Suffices : {K : Type 0} → Kind K → Type 0
Suffices {K} kind =
    (l : Layout K) (bound : ℕ → ℕ → K) (t : Tables K) → Given kind l bound t → (limit : ℕ) → l.junctions * (sets l - 1) ≤ limit
    → ((k : K) → (labelling kind bound l limit t).ending.outcome ≢ Stopped k)
    × (((S : List ℕ) → OpenSet l S → Joins l S (Outlet l) → ⊥) → (labelling kind bound l limit t).ending.outcome ≡ NoneWaits)

-- there are as many turns as labels that are settled, no more than the limit, and each turn settled just one label
abbrev pub Counts : {K : Type 0} → Kind K → Type 0
Counts {K} kind =
    (l : Layout K) (bound : ℕ → ℕ → K) (t : Tables K) → Given kind l bound t → (limit : ℕ)
    → (settled_to (labelling kind bound l limit t).left (codes (size_of l)) ≡ (labelling kind bound l limit t).ending.turns)
    × ((labelling kind bound l limit t).ending.turns ≤ limit)
    × ((i : ℕ) → 0 < i → i ≤ (labelling kind bound l limit t).ending.turns → JustOne (labelling kind bound l limit t).left (codes (size_of l)) i)
