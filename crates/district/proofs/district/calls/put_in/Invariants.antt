use Rattle.std.proofs.Common.{◌≡◌, ℕ, ◌+◌, ◌<◌, ◌≤◌, get_or}
use Rattle.district.proofs.district.calls.put_in.Given as goal

abbrev pub invariant-loop-k : goal.invariant-loop-k
invariant-loop-k l = (l.at ≤ l.k) × (l.k ≤ l.n) × ((m : ℕ) → m < l.k → get_or l.row m 0 ≡ get_or l.initial.row m 0) × ((m : ℕ) → l.k ≤ m → m < l.n → get_or l.row (m + 1) 0 ≡ get_or l.initial.row m 0)

abbrev pub decreases-loop-k : goal.decreases-loop-k
decreases-loop-k l = l.k
