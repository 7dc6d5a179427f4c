-- Where the way back of a label leads. Assumes nothing.
use Rattle.std.specs.Prelude.{◌≡◌, ℕ, ◌^◌, ◌<◌, ◌≤◌, true, Some, ◌≢◌, bit_and, bit_or, slice_index_or}
use Rattle.network.specs.Layouts.{Layout, Link}
use Rattle.network.specs.Bounds.{others, placed}
use Rattle.labelling.specs.declared.kinds.Back.{Back}
use Rattle.labelling.specs.declared.kinds.Back.TheVariants.{Start, Run as ByRun, Fork}
use Rattle.labelling.specs.Tables.{Rule, Tables, sum_of, code_of, label_cost, reached_at, turn_at, no_way}

-- the label at d is settled, and in an earlier turn than that at c, if c is settled too
pub record Earlier {K : Type 0} (t : Tables K) (c d : ℕ) : Type 0 where
  pub settled : turn_at t d ≡ 0 → ⊥
  pub sooner : (turn_at t c ≢ 0) → turn_at t d < turn_at t c

-- how the label (v, I) came to its cost: an outlet alone costs nothing; over an open run from a settled label of another
-- junction; or from two settled labels of the same junction, whose sets share no outlet
pub data Trace {K : Type 0} (r : Rule K) (l : Layout K) (t : Tables K) (v I : ℕ) (cost : K) : Back → Type 0 where
  from_outlet : (i : ℕ) → i < others l → v ≡ placed l i → I ≡ 2 ^ i → cost ≡ r.kind.zero → Trace r l t v I cost Start
  from_run : {i : ℕ} (w : ℕ) (k : K) → Link l i v w k → w < r.size.junctions
      → Earlier t (code_of r.size v I) (code_of r.size w I)
      → sum_of r (label_cost r t (code_of r.size w I)) k ≡ Some cost → Trace r l t v I cost (ByRun i)
  from_fork : {J : ℕ} (I' : ℕ) → (I' ≢ 0) → (J ≢ 0) → bit_and I' J ≡ 0 → bit_or I' J ≡ I
      → Earlier t (code_of r.size v I) (code_of r.size v I')
      → Earlier t (code_of r.size v I) (code_of r.size v J)
      → sum_of r (label_cost r t (code_of r.size v I')) (label_cost r t (code_of r.size v J)) ≡ Some cost
      → Trace r l t v I cost (Fork J)

-- after n turns: each reached label has a trace, settled labels were reached, and no turn is past n
pub record Traced {K : Type 0} (r : Rule K) (l : Layout K) (n : ℕ) (t : Tables K) : Type 0 where
  pub some : (v I : ℕ) → v < r.size.junctions → I < r.size.sets → reached_at t (code_of r.size v I) ≡ true → I ≢ 0
  pub trace : (v I : ℕ) → v < r.size.junctions → I < r.size.sets → reached_at t (code_of r.size v I) ≡ true
      → Trace r l t v I (label_cost r t (code_of r.size v I)) (slice_index_or t.ways (code_of r.size v I) no_way).back
  pub reached : (v I : ℕ) → v < r.size.junctions → I < r.size.sets → (turn_at t (code_of r.size v I) ≢ 0) → reached_at t (code_of r.size v I) ≡ true
  pub turns : (v I : ℕ) → v < r.size.junctions → I < r.size.sets → turn_at t (code_of r.size v I) ≤ n
