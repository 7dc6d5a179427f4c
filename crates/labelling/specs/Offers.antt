-- What a candidate leaves. Assumes nothing.
use Rattle.std.specs.Prelude.{ℕ, Bool, true, false, cond, set, Some, None, Option, ◌==◌}
use Rattle.labelling.specs.declared.kinds.Back.{Back}
use Rattle.labelling.specs.declared.kinds.Place.{Place}
use Rattle.labelling.specs.Tables.{Rule, sum_of, Tables, tables, code_of, label_cost, reached_at, turn_at}

-- a candidate is kept if its label is unreached, or is not settled and costs strictly more
abbrev pub improves : {K : Type 0} → Rule K → Tables K → ℕ → K → Bool
improves r t c k = cond (turn_at t c == 0) (cond (reached_at t c) (r.kind.below k (label_cost r t c)) true) false

-- the label reached at the cost k, with its way back
abbrev pub written : {K : Type 0} → Tables K → ℕ → K → Back → Tables K
written t c k b =
    tables (set t.labels c (Some k)) (set t.ways c (record { turn = 0; back = b }))

-- kept or not, where the candidate has a key
abbrev pub keyed : {K : Type 0} → Rule K → Tables K → ℕ → K → Back → Option K → Tables K
keyed r t c k b None = t
keyed r t c k b (Some key) = cond (improves r t c k) (written t c k b) t

-- one candidate; nothing changes where its key has no sum
abbrev pub offered : {K : Type 0} → Rule K → Tables K → Place K → Back → Tables K
offered r t p b =
    keyed r t (code_of r.size p.v p.set) p.cost b (sum_of r p.cost (r.bound p.v p.set))
