-- The abstract district: what the making and the calls have written, and what each call answers. Assumes nothing.
use Rattle.std.specs.Prelude.{◌≡◌, ℕ, zero, suc, min, Bool, true, false, cond, List, [], ◌∷◌, ◌++◌, length, take, Ok, Err, vec_items, vec_len, Result, ◌==◌, nat_le, nat_lt, ◌<◌, ◌≤◌, slice_index, slice_index_or, slice_set}
use Rattle.network.specs.Costs.{Kind}
use Rattle.network.specs.Layouts.{Layout}
use Rattle.network.specs.declared.cost.Cost.{Ghosts}
use Rattle.network.specs.declared.run.Run.{Run}
use Rattle.network.specs.declared.refusal.Refusal.{Refusal}
use Rattle.network.specs.declared.refusal.Refusal.TheVariants.{JunctionCount, RunCapacity, NotAJunction, SameEnds, NoCost, TooBulky, RunsFull, NoRun, RunState, AlreadyMarked, OutletsFull, NotMarked}
use Rattle.district.specs.declared.district.District.{District}
use Rattle.district.specs.declared.district.Memory.{Memory}
use Rattle.district.specs.declared.district.Unmade.{Unmade}
use Rattle.district.specs.declared.view.View.{View}

-- N, the run capacity, the runs in the order they were laid, which of them are open, and the outlets by rising number
pub record Model (K : Type 0) : Type 0 where
  pub junctions : ℕ
  pub capacity : ℕ
  pub runs : List (Run K)
  pub «open» : List Bool
  pub outlets : List ℕ

-- the abstract district that a district stands for
abbrev pub model_of : {K : Type 0} {bound : Ghosts K} → District K bound → Model K
model_of d = record {
  junctions = d.junctions;
  capacity = min (vec_len d.runs) (vec_len d.«open»);
  runs = take d.laid (vec_items d.runs);
  «open» = take d.laid (vec_items d.«open»);
  outlets = d.outlets.items;
}

-- what a view shows
abbrev pub layout_of : {K : Type 0} → View K → Layout K
layout_of v = record { junctions = v.junctions; runs = v.runs.now; «open» = v.«open».now; outlets = v.outlets.now }

-- what a search may read of the abstract district
abbrev pub seen : {K : Type 0} → Model K → Layout K
seen m = record { junctions = m.junctions; runs = m.runs; «open» = m.«open»; outlets = m.outlets }

-- ---- the making

-- a fresh district has no runs and no outlets
abbrev pub fresh : (K : Type 0) → ℕ → ℕ → Model K
fresh K n capacity = record { junctions = n; capacity = capacity; runs = []; «open» = []; outlets = [] }

-- is N from 1 to 1,024? is the run capacity at most 4,096?
abbrev pub make_answer : (K : Type 0) → ℕ → ℕ → Result (Model K) Refusal
make_answer K n capacity =
    cond (nat_lt n 1) (Err JunctionCount)
    (cond (nat_lt 1024 n) (Err JunctionCount)
    (cond (nat_lt 4096 capacity) (Err RunCapacity) (Ok (fresh K n capacity))))

-- the run capacity of the memory brought: the shorter row's length
abbrev pub room_of : {K : Type 0} → Memory K → ℕ
room_of m = min (vec_len m.runs) (vec_len m.«open»)

-- what a making returns: the fresh district, or the refusal with the memory untouched
abbrev pub Made : {K : Type 0} {bound : Ghosts K} → ℕ → Memory K → Result (District K bound) (Unmade K) → Type 0
Made {K} n memory (Ok d) = make_answer K n (room_of memory) ≡ Ok (model_of d)
Made {K} n memory (Err u) = (make_answer K n (room_of memory) ≡ Err u.why) × (u.memory ≡ memory)

-- the rows of a district, given back
abbrev pub Returned : {K : Type 0} {bound : Ghosts K} → District K bound → Memory K → Type 0
Returned d m = (m.runs ≡ d.runs) × (m.«open» ≡ d.«open»)

-- ---- lay

-- the abstract district after an answer: a refusal changes nothing
abbrev pub if_taken : {X K : Type 0} → Result X Refusal → Model K → Model K → Model K
if_taken (Ok _) new old = new
if_taken (Err _) new old = old

-- the first "no" of the questions, or the number of the new run
abbrev pub lay_answer : {K : Type 0} → Kind K → Model K → ℕ → ℕ → K → Result ℕ Refusal
lay_answer kind m a b cost =
    cond (nat_le m.junctions a) (Err NotAJunction)
    (cond (nat_le m.junctions b) (Err NotAJunction)
    (cond (a == b) (Err SameEnds)
    (cond (kind.below kind.zero cost)
    (cond (nat_lt 1000000 (kind.bulk cost)) (Err TooBulky)
    (cond (nat_le m.capacity (length m.runs)) (Err RunsFull) (Ok (length m.runs))))
    (Err NoCost))))

-- is the cost above zero, and its bulk at most 1,000,000?
abbrev pub price_answer : {K : Type 0} → Kind K → K → Result (Unit {0}) Refusal
price_answer kind cost = cond (kind.below kind.zero cost) (cond (nat_lt 1000000 (kind.bulk cost)) (Err TooBulky) (Ok tt)) (Err NoCost)

-- one more run, which is open
abbrev pub with_run : {K : Type 0} → Model K → ℕ → ℕ → K → Model K
with_run m a b cost = record {
  junctions = m.junctions;
  capacity = m.capacity;
  runs = m.runs ++ record { a = a; b = b; cost = cost } ∷ [];
  «open» = m.«open» ++ true ∷ [];
  outlets = m.outlets;
}

abbrev pub after_lay : {K : Type 0} → Kind K → Model K → ℕ → ℕ → K → Model K
after_lay kind m a b cost = if_taken (lay_answer kind m a b cost) (with_run m a b cost) m

-- ---- mark

-- j is one of the list
abbrev pub has : ℕ → List ℕ → Bool
has j [] = false
has j (x ∷ xs) = cond (x == j) true (has j xs)

-- j put in among numbers that rise
abbrev pub ins : ℕ → List ℕ → List ℕ
ins j [] = j ∷ []
ins j (x ∷ xs) = cond (nat_lt x j) (x ∷ ins j xs) (j ∷ x ∷ xs)

-- j stands at p
pub record Stands (os : List ℕ) (j p : ℕ) : Type 0 where
  pub fit : p < length os
  pub is : slice_index os p ≡ j

-- p is where j would go in, among numbers that rise and are not j
pub record GoesIn (os : List ℕ) (j p : ℕ) : Type 0 where
  pub fit : p ≤ length os
  pub below : (k : ℕ) → k < p → slice_index os k < j
  pub above : (k : ℕ) → p ≤ k → k < length os → j < slice_index os k

-- is it a junction? is it unmarked? are fewer than twelve marked?
abbrev pub mark_answer : {K : Type 0} → Model K → ℕ → Result (Unit {0}) Refusal
mark_answer m j =
    cond (nat_le m.junctions j) (Err NotAJunction)
    (cond (has j m.outlets) (Err AlreadyMarked)
    (cond (nat_le 12 (length m.outlets)) (Err OutletsFull) (Ok tt)))

-- the same district with other outlets
abbrev pub with_outlets : {K : Type 0} → Model K → List ℕ → Model K
with_outlets m os = record { junctions = m.junctions; capacity = m.capacity; runs = m.runs; «open» = m.«open»; outlets = os }

abbrev pub after_mark : {K : Type 0} → Model K → ℕ → Model K
after_mark m j = if_taken (mark_answer m j) (with_outlets m (ins j m.outlets)) m

-- ---- unmark

-- the list without j
abbrev pub del : ℕ → List ℕ → List ℕ
del j [] = []
del j (x ∷ xs) = cond (x == j) xs (x ∷ del j xs)

-- is it a junction? is it marked?
abbrev pub unmark_answer : {K : Type 0} → Model K → ℕ → Result (Unit {0}) Refusal
unmark_answer m j =
    cond (nat_le m.junctions j) (Err NotAJunction)
    (cond (has j m.outlets) (Ok tt) (Err NotMarked))

abbrev pub after_unmark : {K : Type 0} → Model K → ℕ → Model K
after_unmark m j = if_taken (unmark_answer m j) (with_outlets m (del j m.outlets)) m

-- ---- reprice

-- has this run been laid? is the cost above zero, and its bulk at most 1,000,000?
abbrev pub reprice_answer : {K : Type 0} → Kind K → Model K → ℕ → K → Result (Unit {0}) Refusal
reprice_answer kind m i cost =
    cond (nat_le (length m.runs) i) (Err NoRun)
    (cond (kind.below kind.zero cost)
    (cond (nat_lt 1000000 (kind.bulk cost)) (Err TooBulky) (Ok tt))
    (Err NoCost))

-- the same runs, the i-th at another cost
abbrev pub repriced : {K : Type 0} → List (Run K) → ℕ → K → List (Run K)
repriced [] i cost = []
repriced (r ∷ rs) zero cost = record { a = r.a; b = r.b; cost = cost } ∷ rs
repriced (r ∷ rs) (suc i) cost = r ∷ repriced rs i cost

-- the same district with other run records
abbrev pub with_runs : {K : Type 0} → Model K → List (Run K) → Model K
with_runs m rs = record { junctions = m.junctions; capacity = m.capacity; runs = rs; «open» = m.«open»; outlets = m.outlets }

abbrev pub after_reprice : {K : Type 0} → Kind K → Model K → ℕ → K → Model K
after_reprice kind m i cost = if_taken (reprice_answer kind m i cost) (with_runs m (repriced m.runs i cost)) m

-- ---- close and open

-- the run is open
abbrev pub is_open : {K : Type 0} → Model K → ℕ → Bool
is_open m i = slice_index_or m.«open» i false

-- the same district, the i-th run open or not as said
abbrev pub with_mark : {K : Type 0} → Model K → ℕ → Bool → Model K
with_mark m i mark = record { junctions = m.junctions; capacity = m.capacity; runs = m.runs; «open» = slice_set m.«open» i mark; outlets = m.outlets }

-- has this run been laid? is it open?
abbrev pub close_answer : {K : Type 0} → Model K → ℕ → Result (Unit {0}) Refusal
close_answer m i =
    cond (nat_le (length m.runs) i) (Err NoRun)
    (cond (is_open m i) (Ok tt) (Err RunState))

abbrev pub after_close : {K : Type 0} → Model K → ℕ → Model K
after_close m i = if_taken (close_answer m i) (with_mark m i false) m

-- has this run been laid? is it closed?
abbrev pub open_answer : {K : Type 0} → Model K → ℕ → Result (Unit {0}) Refusal
open_answer m i =
    cond (nat_le (length m.runs) i) (Err NoRun)
    (cond (is_open m i) (Err RunState) (Ok tt))

abbrev pub after_open : {K : Type 0} → Model K → ℕ → Model K
after_open m i = if_taken (open_answer m i) (with_mark m i true) m
