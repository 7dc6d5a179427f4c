-- How many labels are settled. Assumes nothing.
use Rattle.std.specs.Prelude.{◌≡◌, ℕ, zero, suc, ◌+◌, ◌<◌, cond, ◌==◌}
use Rattle.labelling.specs.Tables.{Tables, turn_at}

-- how many of the first n codes are settled
abbrev pub settled_to : {K : Type 0} → Tables K → ℕ → ℕ
settled_to t zero = 0
settled_to t (suc n) = settled_to t n + cond (turn_at t n == 0) 0 1

-- of the first n codes just one was settled in the turn i
pub record JustOne {K : Type 0} (t : Tables K) (n i : ℕ) : Type 0 where
  pub code : ℕ
  pub within : code < n
  pub turn : turn_at t code ≡ i
  pub alone : (d : ℕ) → d < n → turn_at t d ≡ i → d ≡ code
