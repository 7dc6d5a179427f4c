-- How distances are found: trials along runs, in rounds. Assumes nothing.
use Rattle.std.specs.Prelude.{ℕ, zero, suc, ◌+◌, ◌*◌, Bool, true, cond, List, [], ◌∷◌, ◌++◌, length, replicate, Some, None, Option, slice_index, slice_index_or, slice_set}
use Rattle.network.specs.Costs.{Kind, summed}
use Rattle.network.specs.declared.run.Run.{Run}

-- the runs that are open
abbrev pub open_runs : {K : Type 0} → List (Run K) → List Bool → List (Run K)
open_runs [] os = []
open_runs (r ∷ rs) [] = []
open_runs (r ∷ rs) (o ∷ os) = cond o (r ∷ open_runs rs os) (open_runs rs os)

-- what is known at the place `from` is offered to the place `to` at a cost more
pub record Arc (K : Type 0) : Type 0 where
  pub from : ℕ
  pub to : ℕ
  pub cost : K

abbrev pub arc : {K : Type 0} → ℕ → ℕ → K → Arc K
arc p q c = record { from = p; to = q; cost = c }

-- the trials of a run, both ways, for each of n outlets: junction v has the places v × 12 + j
abbrev pub run_arcs : {K : Type 0} → ℕ → Run K → List (Arc K)
run_arcs zero r = []
run_arcs (suc j) r = run_arcs j r ++ arc (r.b * 12 + j) (r.a * 12 + j) r.cost ∷ arc (r.a * 12 + j) (r.b * 12 + j) r.cost ∷ []

-- the trials of a round, over the runs that are open
abbrev pub round_arcs : {K : Type 0} → ℕ → List (Run K) → List (Arc K)
round_arcs n [] = []
round_arcs n (r ∷ E) = run_arcs n r ++ round_arcs n E

module _ {K : Type 0} (kind : Kind K) where
  -- a known cost and one more, where they have a sum
  abbrev pub sum_of : Option K → K → Option K
  sum_of None c = None
  sum_of (Some d) c = summed kind d c

  -- nothing is known yet, or something dearer
  abbrev pub improves : Option K → K → Bool
  improves None s = true
  improves (Some d) s = kind.below s d

  -- an offer is taken where it improves
  abbrev pub offered : List (Option K) → ℕ → Option K → List (Option K)
  offered ds p None = ds
  offered ds p (Some s) = cond (improves (slice_index_or ds p None) s) (slice_set ds p (Some s)) ds

  -- one trial
  abbrev pub tried : Arc K → List (Option K) → List (Option K)
  tried a ds = offered ds a.to (sum_of (slice_index_or ds a.from None) a.cost)

  -- one trial after the other
  abbrev pub applied : List (Arc K) → List (Option K) → List (Option K)
  applied [] ds = ds
  applied (a ∷ xs) ds = applied xs (tried a ds)

  -- so many rounds
  abbrev pub rounds : ℕ → List (Arc K) → List (Option K) → List (Option K)
  rounds zero xs ds = ds
  rounds (suc n) xs ds = applied xs (rounds n xs ds)

  -- each of the first n outlets is at no cost from itself
  abbrev pub with_outlets : ℕ → List ℕ → List (Option K) → List (Option K)
  with_outlets zero outlets ds = ds
  with_outlets (suc j) outlets ds = slice_set (with_outlets j outlets ds) (slice_index outlets j * 12 + j) (Some kind.zero)

  -- what is found in a district with n junctions and k outlets, after as many rounds as there are runs
  abbrev pub table : ℕ → List (Run K) → List Bool → ℕ → List ℕ → List (Option K)
  table n runs marks k outlets = rounds (length runs) (round_arcs k (open_runs runs marks)) (with_outlets k outlets (replicate (n * 12) None))
