-- The two tables of a labelling, and what waits in them. Assumes nothing.
use Rattle.std.specs.Prelude.{◌≡◌, ℕ, zero, suc, ◌+◌, ◌*◌, ◌/◌, ◌%◌, ◌^◌, ◌≤◌, Bool, true, false, cond, List, length, get_or, is_some, unwrap_or, Some, None, Option, ◌==◌, nat_le, nat_lt, slice_index_or}
use Rattle.network.specs.Costs.{Kind}
use Rattle.queue.specs.Waits.{better}
use Rattle.labelling.specs.declared.kinds.Way.{Way}
use Rattle.labelling.specs.declared.kinds.Back.TheVariants.{Start}
use Rattle.labelling.specs.declared.kinds.Size.{Size}

-- what a labelling goes by: the kind of cost, which bulks may be added, the bound on what is left to pay,
-- and how many junctions and sets there are
pub record Rule (K : Type 0) : Type 0 where
  pub kind : Kind K
  pub fits : ℕ → Bool
  pub bound : ℕ → ℕ → K
  pub size : Size

-- the planner's rule: a sum is none where the two bulks add to more than 2^50
abbrev pub rule : {K : Type 0} → Kind K → (ℕ → ℕ → K) → Size → Rule K
rule kind bound size = record { kind = kind; fits = λ n. nat_le n (2 ^ 50); bound = bound; size = size }

-- the same with sums that always exist
abbrev pub exactly : {K : Type 0} → Rule K → Rule K
exactly r = record { kind = r.kind; fits = λ _. true; bound = r.bound; size = r.size }

-- the sum, where it has one
abbrev pub sum_of : {K : Type 0} → Rule K → K → K → Option K
sum_of r a b = cond (r.fits (r.kind.bulk a + r.kind.bulk b)) (Some (r.kind.plus a b)) None

-- at each code a label and its way back
pub record Tables (K : Type 0) : Type 0 where
  pub labels : List (Option K)
  pub ways : List Way

abbrev pub tables : {K : Type 0} → List (Option K) → List Way → Tables K
tables ls ws = record { labels = ls; ways = ws }

-- how many codes there are
abbrev pub codes : Size → ℕ
codes s = s.junctions * s.sets

-- the code of the label (v, I)
abbrev pub code_of : Size → ℕ → ℕ → ℕ
code_of s v i = v * s.sets + i

-- the label at a code: what it costs, or none where it is not reached
abbrev pub label_at : {K : Type 0} → Tables K → ℕ → Option K
label_at t c = slice_index_or t.labels c None

-- whether it is reached
abbrev pub reached_at : {K : Type 0} → Tables K → ℕ → Bool
reached_at t c = is_some (label_at t c)

-- what it costs; zero where it is not reached
abbrev pub label_cost : {K : Type 0} → Rule K → Tables K → ℕ → K
label_cost r t c = unwrap_or (label_at t c) r.kind.zero

-- no way back, and not settled
abbrev pub no_way : Way
no_way = record { turn = 0; back = Start }

-- the turn in which the label at a code was settled, or 0
abbrev pub turn_at : {K : Type 0} → Tables K → ℕ → ℕ
turn_at t c = (get_or t.ways c no_way).turn

-- a label waits where it is reached and not settled
abbrev pub waits_at : {K : Type 0} → Rule K → Tables K → ℕ → Bool
waits_at r t c = cond (nat_lt c (codes r.size)) (cond (turn_at t c == 0) (reached_at t c) false) false

-- the key under which it waits: its cost and the bound on what is left to pay
abbrev pub key_at : {K : Type 0} → Rule K → Tables K → ℕ → Option K
key_at r t c =
    cond (waits_at r t c) (sum_of r (label_cost r t c) (r.bound (c / r.size.sets) (c % r.size.sets))) None

-- the better of the best so far and what waits at a later code
abbrev pub with_key : {K : Type 0} → (K → K → Bool) → Option (K × ℕ) → Option K → ℕ → Option (K × ℕ)
with_key below best None c = best
with_key below best (Some k) c = better below best k c

-- the least key of the first n codes, with the least code among equals
abbrev pub least_to : {K : Type 0} → Rule K → Tables K → ℕ → Option (K × ℕ)
least_to r t zero = None
least_to r t (suc n) = with_key r.kind.below (least_to r t n) (key_at r t n) n

-- the label that is next: the least key that waits, with its code
abbrev pub least_waiting : {K : Type 0} → Rule K → Tables K → Option (K × ℕ)
least_waiting r t = least_to r t (codes r.size)

-- the rows have a place for each code, and in the queue waits exactly what waits in the tables, under its key
pub record Ready {K : Type 0} (r : Rule K) (t : Tables K) (ks : List (Option K)) : Type 0 where
  pub labels_long : codes r.size ≤ length t.labels
  pub ways_long : codes r.size ≤ length t.ways
  pub waits_long : codes r.size ≤ length ks
  pub matches : (c : ℕ) → slice_index_or ks c None ≡ key_at r t c

-- what a search may not change of a queue: the memory it was lent, and its capacity
abbrev pub standing : {K : Type 0} → List ℕ → List (Option K) → List ℕ × ℕ
standing lender ks = (lender, length ks)
