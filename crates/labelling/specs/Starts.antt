-- Where a labelling starts, and the labelling of a layout. Assumes nothing.
use Rattle.std.specs.Prelude.{ℕ, ◌+◌, ◌^◌, ◌<◌, List, [], ◌∷◌, ◌++◌, drop, replicate, None}
use Rattle.network.specs.Costs.{Kind}
use Rattle.network.specs.Layouts.{Layout}
use Rattle.network.specs.Bounds.{root, sets, all_others}
use Rattle.labelling.specs.declared.kinds.Back.TheVariants.{Start}
use Rattle.labelling.specs.declared.kinds.Size.{Size}
use Rattle.labelling.specs.Tables.{Rule, rule, Tables, tables, codes, code_of, no_way}
use Rattle.labelling.specs.Offers.{offered}
use Rattle.labelling.specs.Labelling.{Labelled, labelled}

-- as many junctions and sets of outlets as a layout has
abbrev pub size_of : {K : Type 0} → Layout K → Size
size_of l = record { junctions = l.junctions; sets = sets l }

-- what the labelling of a layout goes by
abbrev pub rule_of : {K : Type 0} → Kind K → (ℕ → ℕ → K) → Layout K → Rule K
rule_of kind bound l = rule kind bound (size_of l)

-- the root with all other outlets
abbrev pub goal_of : {K : Type 0} → Layout K → ℕ
goal_of l = code_of (size_of l) (root l) (all_others l)

-- the first n places at x, and the others as they were
abbrev pub wiped : {X : Type 0} → ℕ → X → List X → List X
wiped n x xs = replicate n x ++ drop n xs

-- no label is reached, and none is settled
abbrev pub blank : {K : Type 0} → Rule K → Tables K → Tables K
blank r t = tables (wiped (codes r.size) None t.labels) (wiped (codes r.size) no_way t.ways)

-- each outlet with its own place alone costs nothing
abbrev pub started : {K : Type 0} → Rule K → ℕ → List ℕ → Tables K → Tables K
started r i [] t = t
started r i (o ∷ os) t =
    started r (i + 1) os (offered r t (record { v = o; set = 2 ^ i; cost = r.kind.zero }) Start)

-- a labelling within a limit of turns, from nothing until the root with all others is settled
abbrev pub labelling_by : {K : Type 0} → Rule K → Layout K → ℕ → Tables K → Labelled K
labelling_by r l limit t =
    labelled r l.«open» l.runs (goal_of l) limit 0 (started r 0 (drop 1 l.outlets) (blank r t))

-- the labelling of a layout, as the planner makes it
abbrev pub labelling : {K : Type 0} → Kind K → (ℕ → ℕ → K) → Layout K → ℕ → Tables K → Labelled K
labelling kind bound l limit t = labelling_by (rule_of kind bound l) l limit t

-- each is one of n junctions
abbrev pub Within : ℕ → List ℕ → Type 0
Within n [] = Unit {0}
Within n (x ∷ xs) = (x < n) × Within n xs
