-- What a queue means: at each code below its capacity the cost at which it waits, or None. Assumes nothing.
use Rattle.std.specs.Prelude.{◌≡◌, ℕ, ◌<◌, Bool, true, false, cond, List, length, get_or, Some, None, Ok, Err, Option, Result, nat_lt, slice_index_or, slice_set}
use Rattle.network.specs.declared.refusal.Refusal.{Refusal}
use Rattle.network.specs.declared.refusal.Refusal.TheVariants.{CodeBeyond}

-- what waits at a code once k is put there: the less of the two, where one waits already
abbrev pub lowered : {K : Type 0} → (K → K → Bool) → Option K → K → Option K
lowered below None k = Some k
lowered below (Some j) k = cond (below k j) (Some k) (Some j)

-- is the code below the capacity?
abbrev pub put_answer : {K : Type 0} → List (Option K) → ℕ → Result (Unit {0}) Refusal
put_answer ks c = cond (nat_lt c (length ks)) (Ok tt) (Err CodeBeyond)

-- all that waits once k is put at the code c; no change where c is no code
abbrev pub put_in : {K : Type 0} → (K → K → Bool) → List (Option K) → ℕ → K → List (Option K)
put_in below ks c k = slice_set ks c (lowered below (slice_index_or ks c None) k)

-- k waits at c, no cost that waits is below it, and each that waits at a smaller code is above it
pub record FirstLeast {K : Type 0} (below : K → K → Bool) (ks : List (Option K)) (k : K) (c : ℕ) : Type 0 where
  pub waits : get_or ks c None ≡ Some k
  pub none_below : (d : ℕ) (j : K) → slice_index_or ks d None ≡ Some j → below j k ≡ false
  pub first : (d : ℕ) (j : K) → d < c → slice_index_or ks d None ≡ Some j → below k j ≡ true

-- none where nothing waits; else the pair of least cost, and of least code among equals
abbrev pub Least : {K : Type 0} → (K → K → Bool) → List (Option K) → Option (K × ℕ) → Type 0
Least below ks None = (d : ℕ) → slice_index_or ks d None ≡ None
Least below ks (Some p) = FirstLeast below ks p.0 p.1

-- what waits once the answer of `take` is taken
abbrev pub taken : {K : Type 0} → List (Option K) → Option (K × ℕ) → List (Option K)
taken ks None = ks
taken ks (Some p) = slice_set ks p.1 None

-- the better of the best so far and a later code: a tie keeps the old one
abbrev pub better : {K : Type 0} → (K → K → Bool) → Option (K × ℕ) → K → ℕ → Option (K × ℕ)
better below None k c = Some (k, c)
better below (Some p) k c = cond (below k p.0) (Some (k, c)) (Some p)
