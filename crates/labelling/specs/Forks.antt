-- The candidates over the settled sets at the same junction. Assumes nothing.
use Rattle.std.specs.Prelude.{ℕ, zero, suc, ◌<◌, cond, Some, None, Option, ◌==◌, bit_and, bit_or}
use Rattle.labelling.specs.declared.kinds.Back.TheVariants.{Fork}
use Rattle.labelling.specs.declared.kinds.Place.{Place}
use Rattle.labelling.specs.Tables.{Rule, sum_of, Tables, code_of, label_cost, turn_at}
use Rattle.labelling.specs.Offers.{offered}

abbrev pub joined : {K : Type 0} → Rule K → Tables K → Place K → ℕ → Option K → Tables K
joined r t from j None = t
joined r t from j (Some k) = offered r t (record { v = from.v; set = bit_or from.set j; cost = k }) (Fork j)

-- the candidate with the set j, if that is settled at the junction and shares no outlet
abbrev pub fork : {K : Type 0} → Rule K → Place K → ℕ → Tables K → Tables K
fork r from j t =
    cond (j == 0) t
    (cond (bit_and from.set j == 0)
    (cond (turn_at t (code_of r.size from.v j) == 0) t
    (joined r t from j (sum_of r from.cost (label_cost r t (code_of r.size from.v j)))))
    t)

-- the candidates with the sets below n, in rising order
abbrev pub forks_to : {K : Type 0} → Rule K → Place K → ℕ → Tables K → Tables K
forks_to r from zero t = t
forks_to r from (suc j) t = fork r from j (forks_to r from j t)

abbrev pub forks_offered : {K : Type 0} → Rule K → Place K → Tables K → Tables K
forks_offered r from t = forks_to r from r.size.sets t

-- two of n sets together are one of them
abbrev pub Closed : ℕ → Type 0
Closed n = (a b : ℕ) → a < n → b < n → bit_or a b < n
