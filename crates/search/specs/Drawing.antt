-- Labels that were settled, and where their ways back lead. Assumes nothing.
use Rattle.std.specs.Prelude.{ℕ, ◌-◌, ◌<◌, ◌≤◌, List, length, slice_index_or}
use Rattle.std.specs.Coded.{le_prop}
use Rattle.network.specs.declared.run.Run.{Run}
use Rattle.labelling.specs.declared.kinds.Back.{Back}
use Rattle.labelling.specs.declared.kinds.Back.TheVariants.{Start, Run as ByRun, Fork}
use Rattle.labelling.specs.declared.kinds.Size.{Size}
use Rattle.labelling.specs.declared.kinds.Way.{Way}
use Rattle.labelling.specs.Tables.{code_of, no_way}
use Rattle.optimal.specs.Drawing.{far_end, back_of}

module _ {K : Type 0} (size : Size) (runs : List (Run K)) (ways : List Way) where
  -- the turn in which the label (v, I) was settled, or 0
  abbrev pub turn_of : ℕ → ℕ → ℕ
  turn_of v I = (slice_index_or ways (code_of size v I) no_way).turn

  -- a label that was settled
  pub record Settled (v I : ℕ) : Type 0 where
    pub junction : v < size.junctions
    pub outlets : I < size.sets
    pub turned : 0 < turn_of v I

  -- where a way back leads: to a run that is laid, and to labels that were settled before the turn t
  abbrev pub Leads : ℕ → ℕ → ℕ → Back → Type 0
  Leads t v I Start = Unit {0}
  Leads t v I (ByRun i) = (i < length runs) × Settled (far_end runs i v) I × (turn_of (far_end runs i v) I < t)
  Leads t v I (Fork J) = (J ≤ I) × Settled v J × (turn_of v J < t) × Settled v (I - J) × (turn_of v (I - J) < t)

  -- every settled label's way back leads to labels that were settled before it
  abbrev pub Falls : Type 0
  Falls = (v I : ℕ) → Settled v I → Leads (turn_of v I) v I (back_of size runs ways v I)

  -- each of these facts has one proof at most
  pub Settled-prop : (v I : ℕ) → IsProp (Settled v I)
  Settled-prop v I p q k = record {
    junction = le_prop p.junction q.junction k;
    outlets = le_prop p.outlets q.outlets k;
    turned = le_prop p.turned q.turned k;
  }

  pub Leads-prop : (t v I : ℕ) (b : Back) → IsProp (Leads t v I b)
  Leads-prop t v I Start p q k = tt
  Leads-prop t v I (ByRun i) p q k = (le_prop p.0 q.0 k, Settled-prop (far_end runs i v) I p.1 q.1 k, le_prop p.2 q.2 k)
  Leads-prop t v I (Fork J) p q k =
      (le_prop p.0 q.0 k, Settled-prop v J p.1 q.1 k, le_prop p.2 q.2 k, Settled-prop v (I - J) p.3 q.3 k, le_prop p.4 q.4 k)

  pub Falls-prop : IsProp Falls
  Falls-prop p q k v I s = Leads-prop (turn_of v I) v I (back_of size runs ways v I) (p v I s) (q v I s) k
