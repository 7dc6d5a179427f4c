-- Costs that may be none, as the trial's own solvers add and compare them. Assumes nothing.
use Rattle.std.specs.Prelude.{Bool, true, false, cond, not, ◌&&◌, Some, None, Option}
use Rattle.network.specs.Costs.{Kind, summed}

-- the lesser of two, the first among equals; none is greater than any
abbrev pub lesser_of : {K : Type 0} → Kind K → Option K → Option K → Option K
lesser_of k None b = b
lesser_of k (Some x) None = Some x
lesser_of k (Some x) (Some y) = cond (k.below y x) (Some y) (Some x)

-- the sum of two, or none where either is none
abbrev pub sum_of : {K : Type 0} → Kind K → Option K → Option K → Option K
sum_of k None b = None
sum_of k (Some x) None = None
sum_of k (Some x) (Some y) = summed k x y

-- both are none, or neither is below the other
abbrev pub same_cost : {K : Type 0} → Kind K → Option K → Option K → Bool
same_cost k None None = true
same_cost k None (Some y) = false
same_cost k (Some x) None = false
same_cost k (Some x) (Some y) = not (k.below x y) && not (k.below y x)
