-- A plan, by what its steps left. Assumes nothing.
use Rattle.std.proofs.Common.{◌≡◌, ℕ, zero, suc, ◌+◌, ◌-◌, ◌<◌, ◌≤◌, Bool, true, false, cond, eqb, ltb, ◌⊎◌, List, [], ◌∷◌, length, get_or, take, drop, replicate, ◌++◌, Some, None, Ok, Err, Result, sym, refl, ap, ◌∙◌, subst, inl, inr, arith, MatchResult}
use lib.Bits.{or_disjoint}
use Rattle.std.proofs.lemmas.List.{length-take-le}
use Rattle.std.proofs.lemmas.Bool.{cases_Bool, cond-true, cond-false, eq-eqb, ne_eqb, eqb-true, eqb-false, ltb-false}
use Rattle.network.specs.Costs.{Kind}
use Rattle.network.specs.declared.run.Run.{Run}
use Rattle.network.specs.declared.refusal.Refusal.{Refusal}
use Rattle.network.specs.declared.refusal.Refusal.TheVariants.{EstimatorFit, AnswerRow}
use Rattle.network.specs.Layouts.{Layout, picked}
use Rattle.network.specs.Bounds.{root, all_others}
use Rattle.labelling.specs.declared.kinds.Back.{Back}
use Rattle.labelling.specs.declared.kinds.Back.TheVariants.{Start, Run as ByRun, Fork}
use Rattle.labelling.specs.declared.kinds.Outcome.{Outcome}
use Rattle.labelling.specs.declared.kinds.Outcome.TheVariants.{Finished}
use Rattle.labelling.specs.declared.kinds.Size.{Size}
use Rattle.labelling.specs.Tables.{Tables, code_of, turn_at}
use Rattle.labelling.specs.Labelling.{Labelled}
use Rattle.labelling.specs.Questions.{room_answer}
use Rattle.labelling.specs.Starts.{size_of, rule_of, goal_of, wiped, Within}
use Rattle.labelling.specs.Tracing.{Earlier, Trace, from_run, from_fork, Traced}
use Rattle.labelling.proofs.Viewing.{Room, asked_room}
use Rattle.labelling.proofs.Ended.{Ended, EndedAs}
use Rattle.search.specs.declared.answer.Plan.{Plan}
use Rattle.optimal.specs.Drawing.{far_end, back_of, drawn}
use Rattle.search.specs.Drawing.{turn_of, Settled, Leads, Falls}
use Rattle.search.specs.Planning.{questions, then_ask, Planned, priced_at, cost_at, no_runs, ended_by, concluded, Drawable}

none≢some : {X : Type 0} {x : X} {G : Type 0} → None ≡ Some x → G
none≢some e = absurd (let z : ◌≡◌ {A = ℕ} 0 1 = cc in omega arith)

some_same : {X : Type 0} {x y : X} → Some x ≡ Some y → x ≡ y
some_same e = cc

err≢ok : {X Y : Type 0} {x : X} {y : Y} {G : Type 0} → ◌≡◌ {A = Result X Y} (Ok x) (Err y) → G
err≢ok e = absurd (let z : ◌≡◌ {A = ℕ} 0 1 = cc in omega arith)

above_zero : (n : ℕ) → (n ≡ 0 → ⊥) → 0 < n
above_zero zero h = absurd (h refl)
above_zero (suc n) h = omega arith

-- the first n places filled with one number
pub filled : (n x : ℕ) (row part : List ℕ) → n ≤ length row → part ≡ replicate (length (take n row)) x → part ++ drop n row ≡ wiped n x row
filled n x row part le is-part = ap (λ p. p ++ drop n row) (is-part ∙ ap (λ k. replicate k x) (length-take-le n row le))

-- what the questions found
pub record Passed {K : Type 0} (l : Layout K) (places capacity : ℕ) (fits : Bool) (row : ℕ) (size : Size) : Type 0 where
  pub room : Room l places capacity size
  pub estimator : fits ≡ true
  pub answer : length l.runs ≤ row

pub passed : {K : Type 0} (l : Layout K) (places capacity : ℕ) (fits : Bool) (row : ℕ) (size : Size) → Ok size ≡ questions l places capacity fits row → Passed l places capacity fits row size
passed l places capacity fits row size e = after (room_answer l places capacity) refl fits refl (ltb row (length l.runs)) refl e
  where
    after : (q : Result Size Refusal) → q ≡ room_answer l places capacity → (f : Bool) → f ≡ fits → (b : Bool) → b ≡ ltb row (length l.runs)
        → Ok size ≡ then_ask q (cond f (cond b (Err AnswerRow) (Ok (size_of l))) (Err EstimatorFit)) → Passed l places capacity fits row size
    after (Err why) is-q f is_f b is_b h = err≢ok h
    after (Ok s) is-q false is_f b is_b h = err≢ok h
    after (Ok s) is-q true is_f true is_b h = err≢ok h
    after (Ok s) is-q true is_f false is_b h =
        let r = asked_room l places capacity s is-q in
        let same : size ≡ size_of l = cc in
        record {
          room = record { marked = r.marked; is = same; labels = r.labels; queue = r.queue };
          estimator = sym is_f;
          answer = ltb-false row (length l.runs) (sym is_b);
        }

-- the outlets are junctions
pub all_within : (n : ℕ) (xs : List ℕ) → ((k : ℕ) → k < length xs → get_or xs k 0 < n) → Within n xs
all_within n [] h = tt
all_within n (x ∷ xs) h = (h 0 (omega arith), all_within n xs (λ k lt. h (suc k) (omega arith)))

-- an open run leads from v to w: it is laid, and w is its other end
pub far_picked : {K : Type 0} (runs : List (Run K)) (marks : List Bool) (i v w : ℕ) (x : Run K) → picked runs marks i ≡ Some x
    → ((x.a ≡ v) × (x.b ≡ w)) ⊎ ((x.a ≡ w) × (x.b ≡ v)) → (i < length runs) × (far_end runs i v ≡ w)
far_picked [] marks i v w x e h = none≢some e
far_picked (r ∷ rs) [] i v w x e h = none≢some e
far_picked (r ∷ rs) (true ∷ os) zero v w x e h = (omega arith, by_ends (cases_Bool (eqb r.a v)) h)
  where
    is : r ≡ x
    is = some_same e

    by_ends : (eqb r.a v ≡ true) ⊎ (eqb r.a v ≡ false) → ((x.a ≡ v) × (x.b ≡ w)) ⊎ ((x.a ≡ w) × (x.b ≡ v)) → cond (eqb r.a v) r.b r.a ≡ w
    by_ends (inl y) (inl p) = cond-true _ _ _ y ∙ ap (λ (z : Run _). z.b) is ∙ p.1
    by_ends (inl y) (inr p) = cond-true _ _ _ y ∙ ap (λ (z : Run _). z.b) is ∙ p.1 ∙ sym (eqb-true r.a v y) ∙ ap (λ (z : Run _). z.a) is ∙ p.0
    by_ends (inr y) (inl p) = absurd (eqb-false r.a v y (ap (λ (z : Run _). z.a) is ∙ p.0))
    by_ends (inr y) (inr p) = cond-false _ _ _ y ∙ ap (λ (z : Run _). z.a) is ∙ p.0
far_picked (r ∷ rs) (false ∷ os) zero v w x e h = none≢some e
far_picked (r ∷ rs) (o ∷ os) (suc i) v w x e h = let f = far_picked rs os i v w x e h in (omega (arith, f.0), f.1)

-- the ways back of a labelling lead to labels that were settled in earlier turns
module _ {K : Type 0} (kind : Kind K) (bound : ℕ → ℕ → K) (l : Layout K) (n : ℕ) (t : Tables K) (traced : Traced (rule_of kind bound l) l n t) where
  sooner : (v I w J : ℕ) → w < l.junctions → J < (size_of l).sets → (turn_at t (code_of (size_of l) v I) ≡ 0 → ⊥) → Earlier t (code_of (size_of l) v I) (code_of (size_of l) w J)
      → Settled (size_of l) l.runs t.ways w J × (turn_of (size_of l) l.runs t.ways w J < turn_of (size_of l) l.runs t.ways v I)
  sooner v I w J wn Jn done e =
      (record { junction = wn; outlets = Jn; turned = above_zero _ e.settled }, e.sooner done)

  leads_by : (v I : ℕ) → v < l.junctions → I < (size_of l).sets → (turn_at t (code_of (size_of l) v I) ≡ 0 → ⊥) → (cost : K) (b : Back) → Trace (rule_of kind bound l) l t v I cost b
      → Leads (size_of l) l.runs t.ways (turn_of (size_of l) l.runs t.ways v I) v I b
  leads_by v I vn In done cost Start tr = tt
  leads_by v I vn In done cost (ByRun i) (from_run w k link wn e s) =
      let f = far_picked l.runs l.«open» i v w link.run link.is_open link.leads.ends in
      let g = sooner v I w I wn In done e in
      subst (λ x. (i < length l.runs) × Settled (size_of l) l.runs t.ways x I × (turn_of (size_of l) l.runs t.ways x I < turn_of (size_of l) l.runs t.ways v I)) (sym f.1) (f.0, g.0, g.1)
  leads_by v I vn In done cost (Fork J) (from_fork I' n1 n2 apart union e1 e2 s) =
      let sum : I ≡ I' + J = sym union ∙ or_disjoint I' J apart in
      let rest : I' ≡ I - J = omega arith in
      let a = sooner v I v J vn (omega arith) done e2 in
      let b = sooner v I v I' vn (omega arith) done e1 in
      subst (λ x. (J ≤ I) × Settled (size_of l) l.runs t.ways v J × (turn_of (size_of l) l.runs t.ways v J < turn_of (size_of l) l.runs t.ways v I) × Settled (size_of l) l.runs t.ways v x × (turn_of (size_of l) l.runs t.ways v x < turn_of (size_of l) l.runs t.ways v I)) rest
      (omega arith, a.0, a.1, b.0, b.1)

  pub traced_falls : Falls (size_of l) l.runs t.ways
  traced_falls v I s =
      let pos = s.turned in
      let done : turn_at t (code_of (size_of l) v I) ≡ 0 → ⊥ = λ z. omega arith in
      leads_by v I s.junction s.outlets done _ (back_of (size_of l) l.runs t.ways v I) (traced.trace v I s.junction s.outlets (traced.reached v I s.junction s.outlets done))

-- what was settled last can be drawn
pub drawable_by : {K : Type 0} (kind : Kind K) (bound : ℕ → ℕ → K) (l : Layout K) (limit : ℕ) (t0 : Tables K) (x : Labelled K) → root l < l.junctions → all_others l < (size_of l).sets
    → Ended (rule_of kind bound l) l limit t0 x → x.ending.outcome ≡ Finished → Drawable l x.left x.ending.turns
drawable_by kind bound l limit t0 x rn an h e =
    let how = subst (EndedAs (rule_of kind bound l) (goal_of l) limit x.ending.turns x.left) e h.how in
    let at = how.0 in
    let pos = how.1 in
    record {
      falls = traced_falls kind bound l x.ending.turns x.left h.traced;
      settled = record { junction = rn; outlets = an; turned = omega arith };
      turns = omega arith;
    }

-- the answer, by how the labelling ended
module _ {K : Type 0} (kind : Kind K) (l : Layout K) (x : Labelled K) (row : List ℕ) where
  pub concluded_else : (length l.outlets ≡ 1 → ⊥) → (o : Outcome K) → x.ending.outcome ≡ o → (q : Planned K) → q ≡ ended_by kind l x.left x.ending.turns o row → q ≡ concluded kind l x row
  concluded_else many o is-o q is-q =
      is-q ∙ sym (ap (λ y. ended_by kind l x.left x.ending.turns y row) is-o) ∙ sym (cond-false (eqb (length l.outlets) 1) _ _ (ne_eqb _ 1 many))

  pub concluded_one : length l.outlets ≡ 1 → concluded kind l x row ≡ record { answer = priced_at kind.zero 0; row = no_runs l row }
  concluded_one one = cond-true (eqb (length l.outlets) 1) _ _ (eq-eqb _ 1 one)

-- the search that finished, as the code draws it
module _ {K : Type 0} (kind : Kind K) (l : Layout K) (t : Tables K) (count : ℕ) (size : Size) (is-size : size ≡ size_of l) where
  pub finish_settled : Drawable l t count → Settled size l.runs t.ways (root l) (size.sets - 1)
  finish_settled d = subst (λ (s : Size). Settled s l.runs t.ways (root l) (s.sets - 1)) (sym is-size) d.settled

  pub finish_turns : Drawable l t count → turn_of size l.runs t.ways (root l) (size.sets - 1) ≤ count
  finish_turns d = subst (λ (s : Size). turn_of s l.runs t.ways (root l) (s.sets - 1) ≤ count) (sym is-size) d.turns

  pub finished_as : (p : Plan K) (row row' : List ℕ) → p ≡ record { cost = cost_at kind t (code_of size (root l) (size.sets - 1)); count = count }
      → row' ≡ drawn size l.runs t.ways (suc count) (root l) (size.sets - 1) (wiped (length l.runs) 0 row)
      → record { answer = Ok p; row = row' } ≡ ended_by kind l t count Finished row
  finished_as p row row' is-p is_row =
      let by : Size → Planned K = λ s. record {
        answer = priced_at (cost_at kind t (code_of s (root l) (s.sets - 1))) count;
        row = drawn s l.runs t.ways (suc count) (root l) (s.sets - 1) (wiped (length l.runs) 0 row);
      } in
      let first : ◌≡◌ {A = Planned K} (record { answer = Ok p; row = row' }) (by size) = λ i. record { answer = Ok (is-p i); row = is_row i } in
      first ∙ ap by is-size

-- a promise by cases, where the case is known
pub cases_ok : {X Y : Type 0} (P : X → Type 0) (R : Y → Type 0) (q : Result X Y) (x : X) → Ok x ≡ q → P x → MatchResult q P R
cases_ok P R q x e p = subst (λ y. MatchResult y P R) e p
