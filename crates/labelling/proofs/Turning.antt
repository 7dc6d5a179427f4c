-- A turn keeps the traces. Assumes nothing.
use Rattle.std.proofs.Common.{◌≡◌, ℕ, zero, suc, ◌+◌, ◌/◌, ◌%◌, ◌<◌, ◌≤◌, Bool, true, false, cond, eqb, ◌⊎◌, List, [], ◌∷◌, length, get_or, Some, None, Option, sym, refl, ap, ◌∙◌, subst, inl, inr, ⊎_elim, arith, unwrap_or}
use lib.Bits.{bit_and, bit_or, or_disjoint}
use Rattle.std.proofs.lemmas.Nat.{div-add-mod'}
use Rattle.std.proofs.lemmas.Bool.{cond_both, eqb-true, eqb-false, false≢true}
use Rattle.network.specs.declared.run.Run.{Run}
use Rattle.network.specs.Layouts.{Layout, picked, open_run}
use Rattle.queue.proofs.Scan.{none≢some}
use Rattle.labelling.specs.declared.kinds.Back.{Back}
use Rattle.labelling.specs.declared.kinds.Back.TheVariants.{Run as ByRun, Fork}
use Rattle.labelling.specs.declared.kinds.Place.{Place}
use Rattle.labelling.specs.Tables.{Rule, sum_of, Tables, codes, code_of, label_cost, reached_at, turn_at, least_waiting}
use Rattle.labelling.specs.Offers.{offered}
use Rattle.labelling.specs.Runs.{other_end, led, along_to, along, runs_offered, Ends}
use Rattle.labelling.specs.Forks.{joined, fork, forks_offered, Closed}
use Rattle.labelling.specs.Turns.{place_at, settled, turned_at, turned}
use Rattle.labelling.specs.Tracing.{Earlier, Trace, from_run, from_fork, Traced}
use Rattle.labelling.proofs.Offering.{code_within}
use Rattle.labelling.proofs.Taking.{junction_within, set_within}
use Rattle.labelling.proofs.Writing.{Grown, grown_refl, grown_on, offered_grown, settled_here, settled_long}
use Rattle.labelling.proofs.Folding.{runs_all_kept, forks_all_kept}
use Rattle.labelling.proofs.Choosing.{Waits, least_waits}
use Rattle.labelling.proofs.Tracing.{offered_traced, settled_traced}

-- ---- runs by their numbers
pub picked_is : {K : Type 0} (rs : List (Run K)) (os : List Bool) (i : ℕ) (d : Run K) → i < length rs → get_or os i false ≡ true → picked rs os i ≡ Some (get_or rs i d)
picked_is [] os i d lt h = absurd (omega arith)
picked_is (x ∷ rs) [] i d lt h = absurd (false≢true h)
picked_is (x ∷ rs) (o ∷ os) zero d lt h = ap (λ b. cond b (Some x) None) h
picked_is (x ∷ rs) (o ∷ os) (suc i) d lt h = picked_is rs os i d (omega arith) h

pub ends_at : {K : Type 0} (n : ℕ) (xs : List (Run K)) → Ends n xs → (i : ℕ) (d : Run K) → i < length xs → ((get_or xs i d).a < n) × ((get_or xs i d).b < n)
ends_at n [] h i d lt = absurd (omega arith)
ends_at n (x ∷ xs) h zero d lt = (h.0, h.1)
ends_at n (x ∷ xs) h (suc i) d lt = ends_at n xs h.2 i d (omega arith)

pub other_end_is : {K : Type 0} (x : Run K) (v w : ℕ) → other_end x v ≡ Some w → ((x.a ≡ w) × (x.b ≡ v)) ⊎ ((x.a ≡ v) × (x.b ≡ w))
other_end_is x v w e = look (eqb x.a v) (eqb x.b v) refl refl e
  where
    look : (p q : Bool) → eqb x.a v ≡ p → eqb x.b v ≡ q → cond p (Some x.b) (cond q (Some x.a) None) ≡ Some w → ((x.a ≡ w) × (x.b ≡ v)) ⊎ ((x.a ≡ v) × (x.b ≡ w))
    look true q a b h = inr (eqb-true x.a v a, cc)
    look false true a b h = inl (cc, eqb-true x.b v b)
    look false false a b h = none≢some h

-- the rows have a place for each code
pub record Long {K : Type 0} (r : Rule K) (t : Tables K) : Type 0 where
  pub labels : codes r.size ≤ length t.labels
  pub ways : codes r.size ≤ length t.ways

pub long_grown : {K : Type 0} (r : Rule K) (t t' : Tables K) → Grown r t t' → Long r t → Long r t'
long_grown r t t' g h = record {
  labels = let e = g.labels_long in let a = h.labels in omega arith;
  ways = let e = g.ways_long in let a = h.ways in omega arith;
}

module _ {K : Type 0} (r : Rule K) (l : Layout K) (ends : Ends r.size.junctions l.runs) (closed : Closed r.size.sets) where
  -- ---- while the candidates of one label are offered
  module _ (n : ℕ) (from : Place K) (vn : from.v < r.size.junctions) (In : from.set < r.size.sets) (some : from.set ≡ 0 → ⊥) (t0 : Tables K) where
    abbrev here : ℕ
    here = code_of r.size from.v from.set

    pub record Going (t : Tables K) : Type 0 where
      pub grown : Grown r t0 t
      pub traced : Traced r l n t
      pub long : Long r t
      pub is_settled : turn_at t here ≡ 0 → ⊥
      pub costs : label_cost r t here ≡ from.cost

    pub going_offered : (t : Tables K) (p : Place K) (b : Back) → Going t → p.v < r.size.junctions → p.set < r.size.sets → (p.set ≡ 0 → ⊥)
        → (turn_at t (code_of r.size p.v p.set) ≡ 0 → Trace r l t p.v p.set p.cost b) → Going (offered r t p b)
    going_offered t p b go pn qn ne trace =
        let within = code_within r.size p.v p.set pn qn in
        let long = go.long in
        let g = offered_grown r t p b (omega arith) in
        record {
          grown = grown_on r t0 t (offered r t p b) go.grown g;
          traced = offered_traced r l n t go.traced p b pn qn ne (omega arith) (omega arith) trace;
          long = long_grown r t (offered r t p b) g go.long;
          is_settled = λ z. go.is_settled (sym (g.turns here) ∙ z);
          costs = ap (λ x. unwrap_or x r.kind.zero) (g.labels here go.is_settled) ∙ go.costs;
        }

    from_here : (t : Tables K) → Going t → (c : ℕ) → turn_at t c ≡ 0 → Earlier t c here
    from_here t go c z = record { settled = go.is_settled; sooner = λ h. absurd (h z) }

    pub going_along : (i : ℕ) (x : Run K) (t : Tables K) → i < length l.runs → ((d : Run K) → get_or l.runs i d ≡ x) → Going t → Going (along r from i (get_or l.«open» i false) x t)
    going_along i x t lt is_x go =
        cond_both (get_or l.«open» i false) (along_to r t from i x (other_end x from.v)) t Going (λ mark. to mark (other_end x from.v) refl) (λ e. go)
      where
        is_open : get_or l.«open» i false ≡ true → open_run l i ≡ Some x
        is_open mark = picked_is l.runs l.«open» i x lt mark ∙ ap Some (is_x x)

        inside : (w : ℕ) → ((x.a ≡ w) × (x.b ≡ from.v)) ⊎ ((x.a ≡ from.v) × (x.b ≡ w)) → w < r.size.junctions
        inside w e =
            let q = subst (λ (y : Run K). (y.a < r.size.junctions) × (y.b < r.size.junctions)) (is_x x) (ends_at r.size.junctions l.runs ends i x lt) in
            ⊎_elim (λ a. subst (λ m. m < r.size.junctions) a.0 q.0) (λ a. subst (λ m. m < r.size.junctions) a.1 q.1) e

        lead : get_or l.«open» i false ≡ true → (w : ℕ) → other_end x from.v ≡ Some w → (o : Option K) → sum_of r from.cost x.cost ≡ o → Going (led r t from i w o)
        lead mark w e None s = go
        lead mark w e (Some k) s =
            let q = other_end_is x from.v w e in
            going_offered t (record { v = w; set = from.set; cost = k }) (ByRun i) go (inside w q) In some
            (λ fresh. from_run from.v x.cost (record { run = x; is_open = is_open mark; leads = record { ends = q; costs = refl } }) vn
            (from_here t go (code_of r.size w from.set) fresh) (ap (λ m. sum_of r m x.cost) go.costs ∙ s))

        to : get_or l.«open» i false ≡ true → (o : Option ℕ) → other_end x from.v ≡ o → Going (along_to r t from i x o)
        to mark None e = go
        to mark (Some w) e = lead mark w e (sum_of r from.cost x.cost) refl

    pub going_runs : (t : Tables K) → Going t → Going (runs_offered r from l.«open» 0 l.runs t)
    going_runs t go = runs_all_kept r from l.«open» l.runs (λ i t. Going t) going_along t go

    pub going_fork : (j : ℕ) (t : Tables K) → j < r.size.sets → Going t → Going (fork r from j t)
    going_fork j t jn go =
        cond_both (eqb j 0) _ _ Going (λ z. go)
        (λ ne. cond_both (eqb (bit_and from.set j) 0) _ _ Going
        (λ apart. cond_both (eqb (turn_at t (code_of r.size from.v j)) 0) _ _ Going (λ z. go)
        (λ s. join (eqb-false j 0 ne) (eqb-true _ 0 apart) (eqb-false _ 0 s) (sum_of r from.cost (label_cost r t (code_of r.size from.v j))) refl))
        (λ z. go))
      where
        join : (j ≡ 0 → ⊥) → bit_and from.set j ≡ 0 → (turn_at t (code_of r.size from.v j) ≡ 0 → ⊥) → (o : Option K) → sum_of r from.cost (label_cost r t (code_of r.size from.v j)) ≡ o → Going (joined r t from j o)
        join ne apart s None e = go
        join ne apart s (Some k) e =
            let sum = or_disjoint from.set j apart in
            going_offered t (record { v = from.v; set = bit_or from.set j; cost = k }) (Fork j) go vn (closed from.set j In jn) (λ z. some (omega arith))
            (λ fresh. from_fork from.set some ne apart refl
            (from_here t go (code_of r.size from.v (bit_or from.set j)) fresh) (record { settled = s; sooner = λ h. absurd (h fresh) })
            (ap (λ m. sum_of r m (label_cost r t (code_of r.size from.v j))) go.costs ∙ e))

    pub going_forks : (t : Tables K) → Going t → Going (forks_offered r from t)
    going_forks t go = forks_all_kept r from (λ i t. Going t) r.size.sets going_fork t go

  -- ---- the turn n + 1
  module _ (n : ℕ) (t : Tables K) (traced : Traced r l n t) (long : Long r t) (p : K × ℕ) (least : least_waiting r t ≡ Some p) where
    waits : Waits r t p.1 p.0
    waits = least_waits r t p least

    pub taken_v : p.1 / r.size.sets < r.size.junctions
    taken_v = junction_within r.size p.1 waits.within

    pub taken_set : p.1 % r.size.sets < r.size.sets
    taken_set = set_within r.size p.1 waits.within

    pub taken_code : code_of r.size (p.1 / r.size.sets) (p.1 % r.size.sets) ≡ p.1
    taken_code = div-add-mod' p.1 r.size.sets

    pub taken_some : p.1 % r.size.sets ≡ 0 → ⊥
    taken_some = traced.some (p.1 / r.size.sets) (p.1 % r.size.sets) taken_v taken_set (ap (λ c. reached_at t c) taken_code ∙ waits.reached)

    in_ways : p.1 < length t.ways
    in_ways = let w = waits.within in let h = long.ways in omega arith

    -- once the label is settled, and nothing is offered yet
    pub going_start : Going (n + 1) (place_at r t p.1) taken_v taken_set taken_some (settled t p.1 (n + 1)) (settled t p.1 (n + 1))
    going_start = record {
      grown = grown_refl r (settled t p.1 (n + 1));
      traced = settled_traced r l n t traced p.1 in_ways waits.fresh waits.reached;
      long = record { labels = long.labels; ways = let e = settled_long t p.1 (n + 1) in let h = long.ways in omega arith };
      is_settled = λ z. let e : turn_at (settled t p.1 (n + 1)) p.1 ≡ n + 1 = settled_here t p.1 (n + 1) in_ways in
          let e' = ap (turn_at (settled t p.1 (n + 1))) taken_code in omega arith;
      costs = ap (λ c. label_cost r t c) taken_code;
    }

    pub going_end : Going (n + 1) (place_at r t p.1) taken_v taken_set taken_some (settled t p.1 (n + 1)) (turned r l.«open» l.runs (n + 1) t)
    going_end =
        subst (λ o. Going (n + 1) (place_at r t p.1) taken_v taken_set taken_some (settled t p.1 (n + 1)) (turned_at r l.«open» l.runs (n + 1) t o)) (sym least)
        (going_forks (n + 1) (place_at r t p.1) taken_v taken_set taken_some (settled t p.1 (n + 1)) _
        (going_runs (n + 1) (place_at r t p.1) taken_v taken_set taken_some (settled t p.1 (n + 1)) _ going_start))
