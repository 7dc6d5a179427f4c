-- What is needed of a layout to measure its distances, as one test. Assumes nothing.
use Rattle.std.proofs.Common.{◌≡◌, ℕ, zero, suc, ◌<◌, Bool, true, false, cond, ltb, leb, List, [], ◌∷◌, length, get_or, refl, arith}
use Rattle.std.proofs.lemmas.Bool.{both_ways, ltb-true, leb-true}
use Rattle.network.specs.Costs.{Kind}
use Rattle.network.specs.Layouts.{Layout, Priced}
use Rattle.network.specs.declared.run.Run.{Run}
use Rattle.farthest.proofs.Columns.{Facts}
use Rattle.farthest.proofs.Prepared.{facts_of}

-- both tests pass
abbrev both : Bool → Bool → Bool
both a b = cond a b false

parts : (a b : Bool) → both a b ≡ true → (a ≡ true) × (b ≡ true)
parts true b e = (refl, e)
parts false b e = absurd (both_ways false refl e)

-- each passes the test
abbrev all : {X : Type 0} → (X → Bool) → List X → Bool
all test [] = true
all test (x ∷ xs) = both (test x) (all test xs)

all_at : {X : Type 0} (test : X → Bool) (xs : List X) → all test xs ≡ true → (i : ℕ) (d : X) → i < length xs → test (get_or xs i d) ≡ true
all_at test [] e i d h = absurd (omega arith)
all_at test (x ∷ xs) e zero d h = (parts (test x) (all test xs) e).0
all_at test (x ∷ xs) e (suc i) d h = all_at test xs (parts (test x) (all test xs) e).1 i d (omega arith)

module _ {K : Type 0} (kind : Kind K) (l : Layout K) where
  abbrev ends : Run K → Bool
  ends r = both (ltb r.a l.junctions) (ltb r.b l.junctions)

  abbrev let_in : Run K → Bool
  let_in r = both (kind.below kind.zero r.cost) (leb (kind.bulk r.cost) 1000000)

  abbrev junction : ℕ → Bool
  junction o = ltb o l.junctions

  -- twelve outlets at most
  abbrev few : Bool
  few = leb (length l.outlets) 12

  -- 4,096 runs at most
  abbrev laid : Bool
  laid = leb (length l.runs) 4096

  abbrev runs_end : Bool
  runs_end = all ends l.runs

  abbrev runs_let_in : Bool
  runs_let_in = all let_in l.runs

  abbrev outlets_inside : Bool
  outlets_inside = all junction l.outlets

  -- all that the questions ask of runs and outlets
  abbrev pub sound : Bool
  sound = both few (both laid (both runs_end (both runs_let_in outlets_inside)))

  module _ (e : sound ≡ true) where
    tests : (few ≡ true) × (laid ≡ true) × (runs_end ≡ true) × (runs_let_in ≡ true) × (outlets_inside ≡ true)
    tests =
        let p = parts few (both laid (both runs_end (both runs_let_in outlets_inside))) e in
        let q = parts laid (both runs_end (both runs_let_in outlets_inside)) p.1 in
        let r = parts runs_end (both runs_let_in outlets_inside) q.1 in
        let s = parts runs_let_in outlets_inside r.1 in
        (p.0, q.0, r.0, s.0, s.1)

    pub sound_priced : Priced kind l.runs
    sound_priced i d h =
        let r = get_or l.runs i d in
        let p = parts (kind.below kind.zero r.cost) (leb (kind.bulk r.cost) 1000000) (all_at let_in l.runs tests.3 i d h) in
        record { above_zero = p.0; bulk_within = leb-true (kind.bulk r.cost) 1000000 p.1 }

    pub sound_facts : Facts kind l
    sound_facts =
        facts_of kind l (leb-true (length l.outlets) 12 tests.0) (leb-true (length l.runs) 4096 tests.1)
        (λ i d h. let r = get_or l.runs i d in
        let p = parts (ltb r.a l.junctions) (ltb r.b l.junctions) (all_at ends l.runs tests.2 i d h) in
        (ltb-true r.a l.junctions p.0, ltb-true r.b l.junctions p.1))
        (λ j h. ltb-true (get_or l.outlets j 0) l.junctions (all_at junction l.outlets tests.4 j 0 h)) sound_priced
