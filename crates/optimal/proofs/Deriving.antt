-- The ways back of a settled label lead along a derivation of its cost. Assumes nothing.
use Rattle.std.proofs.Common.{◌≡◌, ℕ, zero, suc, ◌+◌, ◌-◌, ◌^◌, ◌<◌, ◌≤◌, Bool, true, false, cond, eqb, List, [], ◌∷◌, ◌++◌, length, get_or, set, Some, None, sym, refl, ap, ◌∙◌, subst, ⊎_elim, arith}
use lib.Bits.{or_disjoint, or_comm, and_comm}
use Rattle.std.proofs.lemmas.List.{length-set, get_or-set_same, get_or-set_other}
use Rattle.std.proofs.lemmas.Bool.{cases_eq, eqb-true, eqb-false, cond_both}
use Rattle.network.specs.declared.run.Run.{Run}
use Rattle.network.specs.Costs.{Laws}
use Rattle.network.specs.Layouts.{Layout, Link, Member, here, there, picked}
use Rattle.network.specs.Bounds.{placed}
use Rattle.queue.proofs.Scan.{none≢some}
use Rattle.theory.specs.Derivations.{Deriv, outlet, step, fork, uses}
use Rattle.theory.proofs.Paths.{same_some}
use Rattle.labelling.specs.declared.kinds.Back.{Back}
use Rattle.labelling.specs.declared.kinds.Back.TheVariants.{Start, Run as ByRun, Fork}
use Rattle.labelling.specs.Tables.{Rule, sum_of, Tables, code_of, label_cost, reached_at, turn_at}
use Rattle.labelling.specs.Tracing.{Trace, from_outlet, from_run, from_fork, Traced}
use Rattle.labelling.proofs.Writing.{back_at}
use Rattle.optimal.specs.Drawing.{far_end, by, drawn, Shows}

-- ---- marks in a row
abbrev pub marked : List ℕ → List ℕ → List ℕ
marked [] row = row
marked (i ∷ S) row = marked S (set row i 1)

pub marked_both : (S T row : List ℕ) → marked (S ++ T) row ≡ marked T (marked S row)
marked_both [] T row = refl
marked_both (i ∷ S) T row = marked_both S T (set row i 1)

marked_long : (S row : List ℕ) → length (marked S row) ≡ length row
marked_long [] row = refl
marked_long (i ∷ S) row = marked_long S (set row i 1) ∙ length-set row i 1

-- a mark stays
marked_stays : (S row : List ℕ) (i : ℕ) → i < length row → get_or row i 0 ≡ 1 → get_or (marked S row) i 0 ≡ 1
marked_stays [] row i lt h = h
marked_stays (j ∷ S) row i lt h =
    marked_stays S (set row j 1) i (let e = length-set row j 1 in omega arith)
    (⊎_elim (λ e. ap (λ n. get_or (set row j 1) n 0) e ∙ get_or-set_same row j 1 0 (omega arith)) (λ ne. get_or-set_other row j i 1 0 ne ∙ h) (cases_eq i j))

marked_on : {i : ℕ} {S : List ℕ} → Member i S → (row : List ℕ) → i < length row → get_or (marked S row) i 0 ≡ 1
marked_on {i} (here {S = S}) row lt = marked_stays S (set row i 1) i (let e = length-set row i 1 in omega arith) (get_or-set_same row i 1 0 lt)
marked_on {i} (there {j = j} m) row lt = marked_on m (set row j 1) (let e = length-set row j 1 in omega arith)

marked_off : (S row : List ℕ) (i : ℕ) → (Member i S → ⊥) → get_or (marked S row) i 0 ≡ get_or row i 0
marked_off [] row i h = refl
marked_off (j ∷ S) row i h =
    marked_off S (set row j 1) i (λ m. h (there m)) ∙ get_or-set_other row j i 1 0 (λ e. h (subst (λ n. Member i (n ∷ S)) e here))

pub marked_shows : (S row : List ℕ) → Shows S row (marked S row)
marked_shows S row = record { long = marked_long S row; on = λ i m lt. marked_on m row lt; off = λ i h. marked_off S row i h }

-- ---- the other end of an open run
pub picked_out : {K : Type 0} (rs : List (Run K)) (os : List Bool) (i : ℕ) (x : Run K) → picked rs os i ≡ Some x → (get_or os i false ≡ true) × (i < length rs) × ((d : Run K) → get_or rs i d ≡ x)
picked_out [] os i x e = none≢some e
picked_out (y ∷ rs) [] i x e = none≢some e
picked_out (y ∷ rs) (true ∷ os) zero x e = (refl, omega arith, λ d. same_some e)
picked_out (y ∷ rs) (false ∷ os) zero x e = none≢some e
picked_out (y ∷ rs) (o ∷ os) (suc i) x e = let q = picked_out rs os i x e in (q.0, omega arith, q.2)

far_end_at : {K : Type 0} (rs : List (Run K)) (i v : ℕ) (x : Run K) → i < length rs → ((d : Run K) → get_or rs i d ≡ x) → far_end rs i v ≡ cond (eqb x.a v) x.b x.a
far_end_at [] i v x lt e = absurd (omega arith)
far_end_at (y ∷ rs) zero v x lt e = ap (λ (z : Run _). cond (eqb z.a v) z.b z.a) (e y)
far_end_at (y ∷ rs) (suc i) v x lt e = far_end_at rs i v x (omega arith) e

pub far_end_is : {K : Type 0} (l : Layout K) (i v w : ℕ) (k : K) → Link l i v w k → far_end l.runs i v ≡ w
far_end_is l i v w k link =
    let x = link.run in
    let q = picked_out l.runs l.«open» i x link.is_open in
    far_end_at l.runs i v x q.1 q.2
    ∙ cond_both (eqb x.a v) x.b x.a (λ n. n ≡ w)
    (λ e. let a = eqb-true x.a v e in ⊎_elim (λ h. h.1) (λ h. let p = h.0 in let q = h.1 in cc) link.leads.ends)
    (λ e. ⊎_elim (λ h. absurd (ne e h.0)) (λ h. h.0) link.leads.ends)
  where
    ne : eqb link.run.a v ≡ false → link.run.a ≡ v → ⊥
    ne = eqb-false link.run.a v

-- ---- the derivation
module _ {K : Type 0} (r : Rule K) (laws : Laws r.kind) (l : Layout K) (n : ℕ) (t : Tables K) (traced : Traced r l n t) where
  -- a derivation of (v, I) at the cost c, with the runs that the ways back from (w, J) lead along
  abbrev pub Found : ℕ → ℕ → ℕ → ℕ → K → Type 0
  Found w J v I c =
      (d : Deriv r.kind l v I c) × ((f : ℕ) (row : List ℕ) → turn_at t (code_of r.size w J) ≤ f → drawn r.size l.runs t.ways f w J row ≡ marked (uses d) row)

  sum_is : (a b c : K) → sum_of r a b ≡ Some c → r.kind.plus a b ≡ c
  sum_is a b c e = look (r.fits (r.kind.bulk a + r.kind.bulk b)) e
    where
      look : (y : Bool) → cond y (Some (r.kind.plus a b)) None ≡ Some c → r.kind.plus a b ≡ c
      look true h = same_some h
      look false h = none≢some h

  -- what is found of the labels settled in earlier turns
  abbrev Before : ℕ → Type 0
  Before m = (w J : ℕ) → w < r.size.junctions → J < r.size.sets → (turn_at t (code_of r.size w J) ≡ 0 → ⊥) → turn_at t (code_of r.size w J) ≤ m → Found w J w J (label_cost r t (code_of r.size w J))

  module _ (m : ℕ) (before : Before m) (v I : ℕ) (vn : v < r.size.junctions) (In : I < r.size.sets) (settled : turn_at t (code_of r.size v I) ≡ 0 → ⊥) (soon : turn_at t (code_of r.size v I) ≤ suc m) where
    -- a step back takes one unit of the fuel
    one_back : (b : Back) (S : List ℕ) → back_at t (code_of r.size v I) ≡ b
        → ((f : ℕ) (row : List ℕ) → turn_at t (code_of r.size v I) ≤ suc f → by r.size l.runs t.ways (drawn r.size l.runs t.ways f) b v I row ≡ marked S row)
        → (f : ℕ) (row : List ℕ) → turn_at t (code_of r.size v I) ≤ f → drawn r.size l.runs t.ways f v I row ≡ marked S row
    one_back b S is h zero row le = absurd (settled (omega arith))
    one_back b S is h (suc f) row le = ap (λ x. by r.size l.runs t.ways (drawn r.size l.runs t.ways f) x v I row) is ∙ h f row le

    by_trace : (c : K) (b : Back) → back_at t (code_of r.size v I) ≡ b → Trace r l t v I c b → Found v I v I c
    by_trace c b is (from_outlet i lt is-v is-I is_c) =
        subst (λ x. Found v I x I c) (sym is-v)
        (subst (λ x. Found v I (placed l i) x c) (sym is-I)
        (subst (λ x. Found v I (placed l i) (2 ^ i) x) (sym is_c)
        (outlet i lt, one_back Start [] is (λ f row le. refl))))
    by_trace c b is (from_run {i = i} w k link wn e s) =
        let sooner = e.sooner settled in
        let q = before w I wn In e.settled (omega arith) in
        subst (λ x. Found v I v I x) (sum_is _ k c s) (
          step link q.0,
          one_back (ByRun i) (i ∷ uses q.0) is (λ f row le.
              ap (λ x. drawn r.size l.runs t.ways f x I (set row i 1)) (far_end_is l i v w k link) ∙ q.1 f (set row i 1) (omega arith)),
        )
    by_trace c b is (from_fork {J = J} I' a a' apart whole e e' s) =
        let total = or_disjoint I' J apart in
        let sooner = e.sooner settled in
        let sooner' = e'.sooner settled in
        let x = before v J vn (omega arith) e'.settled (omega arith) in
        let y = before v I' vn (omega arith) e.settled (omega arith) in
        let rest : I - J ≡ I' = omega arith in
        subst (λ z. Found v I v I z) (laws.comm _ _ ∙ sum_is _ _ c s)
        (subst (λ z. Found v I v z (r.kind.plus (label_cost r t (code_of r.size v J)) (label_cost r t (code_of r.size v I')))) (or_comm J I' ∙ whole) (
          fork (and_comm J I' ∙ apart) x.0 y.0,
          one_back (Fork J) (uses x.0 ++ uses y.0) is (λ f row le.
              ap (λ z. drawn r.size l.runs t.ways f v z (drawn r.size l.runs t.ways f v J row)) rest
              ∙ y.1 f (drawn r.size l.runs t.ways f v J row) (omega arith)
              ∙ ap (marked (uses y.0)) (x.1 f row (omega arith))
              ∙ sym (marked_both (uses x.0) (uses y.0) row)),
        ))

  pub found : (m : ℕ) → Before m
  found zero v I vn In settled soon = absurd (settled (omega arith))
  found (suc m) v I vn In settled soon =
      by_trace m (found m) v I vn In settled soon (label_cost r t (code_of r.size v I)) (back_at t (code_of r.size v I)) refl (traced.trace v I vn In (traced.reached v I vn In settled))

  -- each settled label has its derivation
  pub settled_found : (v I : ℕ) → v < r.size.junctions → I < r.size.sets → (turn_at t (code_of r.size v I) ≡ 0 → ⊥) → Found v I v I (label_cost r t (code_of r.size v I))
  settled_found v I vn In settled = found (turn_at t (code_of r.size v I)) v I vn In settled (omega arith)

  pub settled_deriv : (v I : ℕ) → v < r.size.junctions → I < r.size.sets → (turn_at t (code_of r.size v I) ≡ 0 → ⊥) → Deriv r.kind l v I (label_cost r t (code_of r.size v I))
  settled_deriv v I vn In settled = (settled_found v I vn In settled).0

  trace_deriv : (v I : ℕ) → v < r.size.junctions → I < r.size.sets → (c : K) (b : Back) → Trace r l t v I c b → Deriv r.kind l v I c
  trace_deriv v I vn In c b (from_outlet i lt is-v is-I is_c) =
      subst (λ x. Deriv r.kind l x I c) (sym is-v) (subst (λ x. Deriv r.kind l (placed l i) x c) (sym is-I) (subst (λ x. Deriv r.kind l (placed l i) (2 ^ i) x) (sym is_c) (outlet i lt)))
  trace_deriv v I vn In c b (from_run w k link wn e s) = subst (λ x. Deriv r.kind l v I x) (sum_is _ k c s) (step link (settled_deriv w I wn In e.settled))
  trace_deriv v I vn In c b (from_fork {J = J} I' a a' apart whole e e' s) =
      let total = or_disjoint I' J apart in
      subst (λ z. Deriv r.kind l v I z) (sum_is _ _ c s)
      (subst (λ z. Deriv r.kind l v z (r.kind.plus (label_cost r t (code_of r.size v I')) (label_cost r t (code_of r.size v J)))) whole
      (fork apart (settled_deriv v I' vn (omega arith) e.settled) (settled_deriv v J vn (omega arith) e'.settled)))

  -- and so has each that is reached
  pub reached_deriv : (v I : ℕ) → v < r.size.junctions → I < r.size.sets → reached_at t (code_of r.size v I) ≡ true → Deriv r.kind l v I (label_cost r t (code_of r.size v I))
  reached_deriv v I vn In h = trace_deriv v I vn In _ _ (traced.trace v I vn In h)
