-- Lists of runs, ways and walks along them, and parts of them. Assumes nothing.
use Rattle.std.proofs.Common.{◌≡◌, ℕ, suc, ◌⊎◌, List, [], ◌∷◌}
use Rattle.network.specs.Costs.{Kind, AtMost}
use Rattle.network.specs.declared.run.Run.{Run}

-- the run e leads from u to w and costs k
pub record Along {C : Type 0} (e : Run C) (u w : ℕ) (k : C) : Type 0 where
  pub starts : e.a ≡ u
  pub stops : e.b ≡ w
  pub costs : e.cost ≡ k

abbrev pub Spans : {C : Type 0} → Run C → ℕ → ℕ → C → Type 0
Spans e u w k = Along e u w k ⊎ Along e w u k

-- some run of S leads between u and w and costs k
pub data Joins {C : Type 0} (u w : ℕ) (k : C) : List (Run C) → Type 0 where
  here : {e : Run C} {S : List (Run C)} → Spans e u w k → Joins u w k (e ∷ S)
  there : {e : Run C} {S : List (Run C)} → Joins u w k S → Joins u w k (e ∷ S)

-- one can go from u to v along runs of S
pub data Way {C : Type 0} (S : List (Run C)) : ℕ → ℕ → Type 0 where
  stay : {v : ℕ} → Way S v v
  go : {u w v : ℕ} {k : C} → Joins u w k S → Way S w v → Way S u v

-- each run of S is one of E
abbrev pub Within : {C : Type 0} → List (Run C) → List (Run C) → Type 0
Within {C} S E = (u w : ℕ) (k : C) → Joins u w k S → Joins u w k E

-- S is a set of runs of E: E with some left out
pub data Part {C : Type 0} : List (Run C) → List (Run C) → Type 0 where
  none : Part [] []
  leave : {e : Run C} {S E : List (Run C)} → Part S E → Part S (e ∷ E)
  keep : {e : Run C} {S E : List (Run C)} → Part S E → Part (e ∷ S) (e ∷ E)

module _ {C : Type 0} (kind : Kind C) where
  -- what a set of runs costs
  abbrev pub total : List (Run C) → C
  total [] = kind.zero
  total (e ∷ S) = kind.plus e.cost (total S)

  -- a walk from u to v over n runs of S, at the cost c, which pays a run each time
  pub data Walk (S : List (Run C)) : ℕ → ℕ → ℕ → C → Type 0 where
    stand : {v : ℕ} → Walk S v v 0 kind.zero
    step : {u w v n : ℕ} {c k : C} → Joins u w k S → Walk S w v n c → Walk S u v (suc n) (kind.plus c k)

-- the least cost of a part of E that joins v and w
pub record Cheapest {C : Type 0} (kind : Kind C) (E : List (Run C)) (v w : ℕ) (d : C) : Type 0 where
  pub set : List (Run C)
  pub part : Part set E
  pub joins : Way set v w
  pub costs : total kind set ≡ d
  pub least : (S : List (Run C)) → Part S E → Way S v w → AtMost kind d (total kind S)
