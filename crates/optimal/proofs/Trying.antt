-- In a turn every candidate of the settled label is tried. Assumes nothing.
use Rattle.std.proofs.Common.{◌≡◌, ℕ, suc, ◌+◌, ◌<◌, false, cond, eqb, length, get_or, Some, None, sym, ap, ◌∙◌, subst, ⊎_elim, arith, unwrap_or, Option}
use lib.Bits.{bit_and, bit_or}
use Rattle.std.proofs.lemmas.Bool.{cases_lt, cond-true, cond-false, cond_both, eq-eqb, ne_eqb, eqb-true}
use Rattle.network.specs.declared.run.Run.{Run}
use Rattle.network.specs.Costs.{Laws, AtMost}
use Rattle.network.specs.Layouts.{Layout, Link}
use Rattle.theory.specs.Derivations.{Deriv, step, fork as joined_at}
use Rattle.labelling.specs.declared.kinds.Back.{Back}
use Rattle.labelling.specs.declared.kinds.Back.TheVariants.{Run as ByRun, Fork}
use Rattle.labelling.specs.declared.kinds.Place.{Place}
use Rattle.labelling.specs.Tables.{Rule, sum_of, Tables, code_of, label_cost, turn_at}
use Rattle.labelling.specs.Offers.{offered}
use Rattle.labelling.specs.Runs.{other_end, led, along_to, along, runs_offered, Ends}
use Rattle.labelling.specs.Forks.{joined, fork, forks_offered, Closed}
use Rattle.labelling.proofs.Offering.{code_within}
use Rattle.labelling.proofs.Folding.{runs_all_kept, forks_all_kept}
use Rattle.labelling.proofs.Turning.{ends_at, Going, going_along, going_fork}
use Rattle.optimal.proofs.Deriving.{picked_out, settled_deriv}
use Rattle.optimal.proofs.Reaching.{Reach, reach_offered, reach_made, along_either, fork_either}

-- a run that leads to v ends there, and leads back
pub other_end_of : {K : Type 0} (l : Layout K) (i u v : ℕ) (k : K) (link : Link l i u v k) → other_end link.run v ≡ Some u
other_end_of l i u v k link =
    ⊎_elim
    (λ h. cond_both (eqb link.run.a v) (Some link.run.b) (cond (eqb link.run.b v) (Some link.run.a) None) (λ o. o ≡ Some u)
    (λ e. let q = eqb-true link.run.a v e in ap Some (h.1 ∙ sym q ∙ h.0))
    (λ e. cond-true (eqb link.run.b v) (Some link.run.a) None (eq-eqb link.run.b v h.1) ∙ ap Some h.0))
    (λ h. cond-true (eqb link.run.a v) (Some link.run.b) _ (eq-eqb link.run.a v h.0) ∙ ap Some h.1)
    link.leads.ends

pub link_within : {K : Type 0} (l : Layout K) (n : ℕ) → Ends n l.runs → (i u v : ℕ) (k : K) → Link l i u v k → u < n
link_within {K} l n ends i u v k link =
    let q = picked_out l.runs l.«open» i link.run link.is_open in
    let e = subst (λ (x : Run K). (x.a < n) × (x.b < n)) (q.2 link.run) (ends_at n l.runs ends i link.run q.1) in
    ⊎_elim (λ h. subst (λ m. m < n) h.0 e.0) (λ h. subst (λ m. m < n) h.1 e.1) link.leads.ends

module _ {K : Type 0} (r : Rule K) (laws : Laws r.kind) (sums : (a b : K) → sum_of r a b ≡ Some (r.kind.plus a b)) (l : Layout K)
    (ends : Ends r.size.junctions l.runs) (closed : Closed r.size.sets)
    (n : ℕ) (from : Place K) (vn : from.v < r.size.junctions) (In : from.set < r.size.sets) (some : from.set ≡ 0 → ⊥) (s : Tables K)
    -- what is settled costs no more than any derivation
    (cheap : (w J : ℕ) → w < r.size.junctions → J < r.size.sets → (turn_at s (code_of r.size w J) ≡ 0 → ⊥) → (d : K) → Deriv r.kind l w J d → AtMost r.kind (label_cost r s (code_of r.size w J)) d) where
  abbrev Go : Tables K → Type 0
  Go t = Going r l ends closed n from vn In some s t

  derived : (t : Tables K) → Go t → Deriv r.kind l from.v from.set from.cost
  derived t go = subst (Deriv r.kind l from.v from.set) go.costs (settled_deriv r laws l n t go.traced from.v from.set vn In go.is_settled)

  -- a settled label that could be offered a derivation's cost costs no more already
  done : (t : Tables K) → Go t → (w J : ℕ) → w < r.size.junctions → J < r.size.sets → (d : K) → Deriv r.kind l w J d
      → (turn_at t (code_of r.size w J) ≡ 0 → ⊥) → Reach r t (code_of r.size w J) d
  done t go w J wn Jn d x h =
      let c = code_of r.size w J in
      let was : turn_at s c ≡ 0 → ⊥ = λ z. h (go.grown.turns c ∙ z) in
      (go.traced.reached w J wn Jn h, ap (λ (y : Option K). r.kind.below d (unwrap_or y r.kind.zero)) (go.grown.labels c was) ∙ cheap w J wn Jn was d x)

  made : (t : Tables K) → Go t → (p : Place K) (b : Back) → p.v < r.size.junctions → p.set < r.size.sets → Deriv r.kind l p.v p.set p.cost
      → Reach r (offered r t p b) (code_of r.size p.v p.set) p.cost
  made t go p b pn qn x =
      let within = code_within r.size p.v p.set pn qn in
      let long = go.long.labels in
      reach_made r laws t p b (r.kind.plus p.cost (r.bound p.v p.set)) (sums p.cost (r.bound p.v p.set)) (omega arith) (done t go p.v p.set pn qn p.cost x)

  -- ---- the runs with the first i numbers
  pub record Ran (i : ℕ) (t : Tables K) : Type 0 where
    pub going : Go t
    pub tried : (j u : ℕ) (k : K) → j < i → Link l j u from.v k → Reach r t (code_of r.size u from.set) (r.kind.plus from.cost k)

  along_made : (i : ℕ) (x : Run K) (t : Tables K) → Go t → ((d : Run K) → get_or l.runs i d ≡ x) → (u : ℕ) (k : K) → Link l i u from.v k
      → Reach r (along r from i (get_or l.«open» i false) x t) (code_of r.size u from.set) (r.kind.plus from.cost k)
  along_made i x t go is_x u k link =
      let q = picked_out l.runs l.«open» i link.run link.is_open in
      let is-run : x ≡ link.run = sym (is_x x) ∙ q.2 x in
      let is : along r from i (get_or l.«open» i false) x t ≡ offered r t (record { v = u; set = from.set; cost = r.kind.plus from.cost k }) (ByRun i) =
      cond-true (get_or l.«open» i false) _ t q.0
      ∙ ap (λ (y : Run K). along_to r t from i y (other_end y from.v)) is-run
      ∙ ap (along_to r t from i link.run) (other_end_of l i u from.v k link)
      ∙ ap (led r t from i u) (sums from.cost link.run.cost)
      ∙ ap (λ m. offered r t (record { v = u; set = from.set; cost = r.kind.plus from.cost m }) (ByRun i)) link.leads.costs in
      subst (λ y. Reach r y (code_of r.size u from.set) (r.kind.plus from.cost k)) (sym is)
      (made t go (record { v = u; set = from.set; cost = r.kind.plus from.cost k }) (ByRun i) (link_within l r.size.junctions ends i u from.v k link) In (step link (derived t go)))

  ran_more : (i : ℕ) (x : Run K) (t : Tables K) → i < length l.runs → ((d : Run K) → get_or l.runs i d ≡ x) → Ran i t → Ran (i + 1) (along r from i (get_or l.«open» i false) x t)
  ran_more i x t lt is_x h = record {
    going = going_along r l ends closed n from vn In some s i x t lt is_x h.going;
    tried = λ j u k jlt link.
        ⊎_elim
        (λ less. along_either r from t (λ y. Reach r y (code_of r.size u from.set) (r.kind.plus from.cost k)) (h.tried j u k less link) i (get_or l.«open» i false) x
        (λ w c a b e. reach_offered r laws t _ _ _ _ (h.tried j u k less link)))
        (λ ge. let e : j ≡ i = omega arith in along_made i x t h.going is_x u k (subst (λ m. Link l m u from.v k) e link))
        (cases_lt j i);
  }

  pub ran_all : (t : Tables K) → Go t → Ran (length l.runs) (runs_offered r from l.«open» 0 l.runs t)
  ran_all t go = runs_all_kept r from l.«open» l.runs Ran ran_more t (record { going = go; tried = λ j u k jlt link. absurd (omega arith) })

  -- ---- the sets below j
  pub record Forked (j : ℕ) (t : Tables K) : Type 0 where
    pub ran : Ran (length l.runs) t
    pub tried : (J : ℕ) → J < j → (J ≡ 0 → ⊥) → bit_and from.set J ≡ 0 → (turn_at s (code_of r.size from.v J) ≡ 0 → ⊥)
        → Reach r t (code_of r.size from.v (bit_or from.set J)) (r.kind.plus from.cost (label_cost r s (code_of r.size from.v J)))

  fork_made : (j : ℕ) (t : Tables K) → j < r.size.sets → Go t → (j ≡ 0 → ⊥) → bit_and from.set j ≡ 0 → (turn_at s (code_of r.size from.v j) ≡ 0 → ⊥)
      → Reach r (fork r from j t) (code_of r.size from.v (bit_or from.set j)) (r.kind.plus from.cost (label_cost r s (code_of r.size from.v j)))
  fork_made j t jn go ne apart was =
      let c = code_of r.size from.v j in
      let now : turn_at t c ≡ 0 → ⊥ = λ z. was (sym (go.grown.turns c) ∙ z) in
      let m = (label_cost r t c) in
      let inner = joined r t from j (sum_of r from.cost m) in
      let is : fork r from j t ≡ offered r t (record { v = from.v; set = bit_or from.set j; cost = r.kind.plus from.cost m }) (Fork j) =
      cond-false (eqb j 0) t (cond (eqb (bit_and from.set j) 0) (cond (eqb (turn_at t c) 0) t inner) t) (ne_eqb j 0 ne)
      ∙ cond-true (eqb (bit_and from.set j) 0) (cond (eqb (turn_at t c) 0) t inner) t (eq-eqb _ 0 apart)
      ∙ cond-false (eqb (turn_at t c) 0) t inner (ne_eqb _ 0 now)
      ∙ ap (joined r t from j) (sums from.cost m) in
      let x = joined_at apart (derived t go) (settled_deriv r laws l n t go.traced from.v j vn jn now) in
      subst (λ y. Reach r y (code_of r.size from.v (bit_or from.set j)) (r.kind.plus from.cost (label_cost r s c))) (sym is)
      (subst (λ (y : Option K). Reach r (offered r t (record { v = from.v; set = bit_or from.set j; cost = r.kind.plus from.cost m }) (Fork j)) (code_of r.size from.v (bit_or from.set j)) (r.kind.plus from.cost (unwrap_or y r.kind.zero)))
      (go.grown.labels c was)
      (made t go (record { v = from.v; set = bit_or from.set j; cost = r.kind.plus from.cost m }) (Fork j) vn (closed from.set j In jn) x))

  forked_more : (j : ℕ) (t : Tables K) → j < r.size.sets → Forked j t → Forked (suc j) (fork r from j t)
  forked_more j t jn h = record {
    ran = record {
      going = going_fork r l ends closed n from vn In some s j t jn h.ran.going;
      tried = λ i u k lt link. stays _ _ (h.ran.tried i u k lt link);
    };
    tried = λ J lt ne apart was.
        ⊎_elim
        (λ less. stays _ _ (h.tried J less ne apart was))
        (λ ge. let e : j ≡ J = omega arith in
        subst (λ i. Reach r (fork r from j t) (code_of r.size from.v (bit_or from.set i)) (r.kind.plus from.cost (label_cost r s (code_of r.size from.v i)))) e
        (fork_made j t jn h.ran.going (λ z. ne (omega arith)) (ap (bit_and from.set) e ∙ apart) (λ z. was (ap (λ i. turn_at s (code_of r.size from.v i)) (sym e) ∙ z))))
        (cases_lt J j);
  }
    where
      stays : (d : ℕ) (m : K) → Reach r t d m → Reach r (fork r from j t) d m
      stays d m x = fork_either r from t (λ y. Reach r y d m) x j (λ k a b c e. reach_offered r laws t _ _ d m x)

  pub forked_all : (t : Tables K) → Go t → Forked r.size.sets (forks_offered r from (runs_offered r from l.«open» 0 l.runs t))
  forked_all t go = forks_all_kept r from Forked r.size.sets forked_more _ (record { ran = ran_all t go; tried = λ J lt ne apart was. absurd (omega arith) })

  -- what is reached stays reached through the whole turn
  pub reach_turn : (t : Tables K) (d : ℕ) (m : K) → Reach r t d m → Reach r (forks_offered r from (runs_offered r from l.«open» 0 l.runs t)) d m
  reach_turn t d m x =
      forks_all_kept r from (λ j y. Reach r y d m) r.size.sets
      (λ j y lt h. fork_either r from y (λ z. Reach r z d m) h j (λ k a b c e. reach_offered r laws y _ _ d m h)) _
      (runs_all_kept r from l.«open» l.runs (λ i y. Reach r y d m)
      (λ i z y lt is-z h. along_either r from y (λ w. Reach r w d m) h i (get_or l.«open» i false) z (λ w k a b e. reach_offered r laws y _ _ d m h)) t x)
