-- Decimal numbers. Assumes nothing.
use Rattle.std.specs.Prelude.{ℕ, ◌+◌, ◌-◌, ◌*◌, ◌^◌, min, Bool, true, cond, ◌&&◌, List, [], ◌∷◌, Some, None, Option, nat_le}

abbrev pub digit : ℕ → Bool
digit b = nat_le 48 b && nat_le b 57

abbrev pub all_digits : List ℕ → Bool
all_digits [] = true
all_digits (b ∷ bs) = digit b && all_digits bs

-- what digits say after a number n
abbrev pub value : ℕ → List ℕ → ℕ
value n [] = n
value n (b ∷ bs) = value (n * 10 + (b - 48)) bs

-- a number beyond 64 bits is read as the greatest of 64 bits
abbrev pub held : ℕ → ℕ
held n = min n (2 ^ 64 - 1)

-- one or more digits say a number
abbrev pub number_of : List ℕ → Option ℕ
number_of [] = None
number_of (b ∷ bs) = cond (all_digits (b ∷ bs)) (Some (held (value 0 (b ∷ bs)))) None

-- a number with one more digit
abbrev pub one_more : ℕ → ℕ → Option ℕ
one_more n b = cond (digit b) (Some (held (n * 10 + (b - 48)))) None
