-- Drawing along the ways back. Assumes nothing.
use Rattle.std.specs.Prelude.{◌≡◌, ℕ, zero, suc, ◌-◌, ◌<◌, cond, List, [], ◌∷◌, length, ◌==◌, slice_index, slice_index_or, slice_set}
use Rattle.network.specs.declared.run.Run.{Run}
use Rattle.network.specs.Layouts.{Member}
use Rattle.labelling.specs.declared.kinds.Back.{Back}
use Rattle.labelling.specs.declared.kinds.Back.TheVariants.{Start, Run as ByRun, Fork}
use Rattle.labelling.specs.declared.kinds.Size.{Size}
use Rattle.labelling.specs.declared.kinds.Way.{Way}
use Rattle.labelling.specs.Tables.{code_of, no_way}

-- the other end of the run with the number i, seen from v
abbrev pub far_end : {K : Type 0} → List (Run K) → ℕ → ℕ → ℕ
far_end [] i v = v
far_end (x ∷ xs) zero v = cond (x.a == v) x.b x.a
far_end (x ∷ xs) (suc i) v = far_end xs i v

module _ {K : Type 0} (size : Size) (runs : List (Run K)) (ways : List Way) where
  -- the way back of the label (v, I)
  abbrev pub back_of : ℕ → ℕ → Back
  back_of v I = (slice_index_or ways (code_of size v I) no_way).back

  -- one step back, where `go` draws what lies before: a label with no way back ends a branch; a run is marked and the branch
  -- goes on at its other end; a fork draws its two branches
  abbrev pub by : (ℕ → ℕ → List ℕ → List ℕ) → Back → ℕ → ℕ → List ℕ → List ℕ
  by go Start v I row = row
  by go (ByRun i) v I row = go (far_end runs i v) I (slice_set row i 1)
  by go (Fork J) v I row = go v (I - J) (go v J row)

  -- the row with the runs of the label (v, I) drawn, at most n turns back
  abbrev pub drawn : ℕ → ℕ → ℕ → List ℕ → List ℕ
  drawn zero v I row = row
  drawn (suc n) v I row = by (drawn n) (back_of v I) v I row

-- the row after shows the runs of S: 1 at each of them, and elsewhere what stood there before
pub record Shows (S before after : List ℕ) : Type 0 where
  pub long : length after ≡ length before
  pub on : (i : ℕ) → Member i S → i < length before → slice_index after i ≡ 1
  pub off : (i : ℕ) → (Member i S → ⊥) → slice_index after i ≡ slice_index before i
