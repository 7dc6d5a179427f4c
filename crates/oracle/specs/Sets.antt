-- Sets of numbers below 64, each as a number. Assumes nothing.
use Rattle.std.specs.Prelude.{ℕ, ◌-◌, cond, ◌==◌, Option, Some, None, bit_and}
use Rattle.std.specs.Int.{w64, trailing_zeros}

-- the least number of a set, or none of the empty set
abbrev pub least_of : ℕ → Option ℕ
least_of s = cond (s == 0) None (Some (trailing_zeros w64 s))

-- a set without its least number
abbrev pub without_least : ℕ → ℕ
without_least s = bit_and s (s - 1)
