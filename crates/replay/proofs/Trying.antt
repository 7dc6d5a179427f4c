-- A fresh district's costs, a plan tried by what `plan` left, and a call that was tried in its turn. Assumes nothing.
use Rattle.std.proofs.Common.{◌≡◌, ℕ, ◌≤◌, min, Bool, true, false, cond, ◌&&◌, ltb, leb, List, [], length, Some, Ok, Err, vec_items, Option, Result, sym, refl, ap, ◌∙◌, subst, arith, MatchResult}
use Rattle.std.proofs.lemmas.Result.{MatchResult-weaker}
use Rattle.std.proofs.lemmas.Bool.Decides.{nat_tests}
use Rattle.network.specs.Costs.{Kind}
use Rattle.network.specs.Layouts.{Layout, Priced}
use Rattle.network.specs.declared.refusal.Refusal.{Refusal}
use Rattle.network.specs.declared.refusal.Refusal.TheVariants.{EstimatorFit, AnswerRow}
use Rattle.network.specs.declared.run.Run.{Run}
use Rattle.district.specs.Model.{Model, make_answer}
use Rattle.estimate.specs.Estimates.{Prepared}
use Rattle.labelling.specs.declared.kinds.Size.{Size}
use Rattle.labelling.specs.Questions.{room_answer}
use Rattle.labelling.specs.Starts.{size_of}
use Rattle.labelling.specs.Tables.{Tables}
use Rattle.labelling.proofs.Viewing.{asked_room}
use Rattle.search.specs.declared.answer.Plan.{Plan}
use Rattle.search.specs.declared.answer.NoPlan.{NoPlan}
use Rattle.search.specs.declared.answer.NoPlan.TheVariants.{Refused}
use Rattle.search.specs.Planning.{questions, then_ask, Carried}
use Rattle.search.specs.Promise.{Right}
use Rattle.replay.specs.declared.turn.Allowance.{Allowance}
use Rattle.replay.specs.declared.turn.Turn.{Turn}
use Rattle.std.specs.declared.vec.Vec.{Vec}
use Rattle.std.specs.Vec.{with_items}
use Rattle.std.specs.Coded.{×_prop, le_prop}
use Rattle.std.proofs.lemmas.List.{with_items_is}
use mathlib.Core.HLevel.{is_prop→PathP}
use native.Mathlib.Nat.{ℕ_set}
use Rattle.district.specs.Model.{seen}
use Rattle.replay.specs.declared.turn.Reply.{Reply}
use Rattle.replay.specs.declared.turn.Call.{Call}
use Rattle.replay.specs.declared.turn.Call.TheVariants.{Lay, Reprice, Close, Open, Mark, Unmark, Plan as Planning}
use Rattle.labelling.specs.declared.desk.Desk.{Desk as LentDesk}
use Rattle.search.specs.Desks.{Stands}
use Rattle.replay.specs.Calls.{Desk, desk, allowed, offered}
use Rattle.replay.specs.Sequence.{answered, Sought, Asked, Tried, PlanTried, ByCall}

-- the runs of a district that was made
abbrev runs_in : {K : Type 0} → Result (Model K) Refusal → List (Run K)
runs_in (Ok m) = m.runs
runs_in (Err why) = []

either : {K : Type 0} (b : Bool) (x y : Result (Model K) Refusal) → runs_in x ≡ [] → runs_in y ≡ [] → runs_in (cond b x y) ≡ []
either true x y p q = p
either false x y p q = q

-- a fresh district has no runs, so their costs are within bounds
pub fresh_priced : {K : Type 0} (kind : Kind K) (n capacity : ℕ) (m : Model K) → make_answer K n capacity ≡ Ok m → Priced kind m.runs
fresh_priced {K} kind n capacity m e =
    let none : runs_in (make_answer K n capacity) ≡ [] =
    either (ltb n 1) _ _ refl (either (ltb 1024 n) _ _ refl (either (ltb 4096 capacity) _ _ refl refl)) in
    subst (Priced kind) (sym none ∙ ap runs_in e) (λ i d l. absurd (omega arith))

-- the questions about memory, passed with less, are passed with more
pub room_more : {K : Type 0} (l : Layout K) (p q c d : ℕ) (size : Size) → p ≤ q → c ≤ d → Ok size ≡ room_answer l p c → room_answer l p c ≡ room_answer l q d
room_more l p q c d size lp lc e =
    let r = asked_room l p c size e in
    let some = r.marked in
    let in-labels = r.labels in
    let in-queue = r.queue in
    let f : room_answer l p c ≡ Ok (size_of l) = grind (arith, nat_tests) in
    let g : room_answer l q d ≡ Ok (size_of l) = grind (arith, nat_tests) in
    f ∙ sym g

module _ {K : Type 0} (kind : Kind K) (makes : Layout K → (ℕ → ℕ → K) → Type 0) (desk : Desk) (limit : ℕ) (said : Result (Plan K) (NoPlan K)) where
  pub asked_by : (l : Layout K) (row row' : List ℕ) (bound : ℕ → ℕ → K) (was left : Tables K) (waiting : List (Option K)) (A B : Type 0) → Priced kind l.runs
      → MatchResult (questions l desk.labels desk.queue (desk.fits l.junctions (length l.outlets)) (length row))
      (λ _. Carried kind bound l limit was left row waiting (record { answer = said; row = row' }) × makes l bound × Prepared kind l bound × A × (Priced kind l.runs → Right kind bound l limit left row' said))
      (λ why. (said ≡ Err (Refused why)) × B × (row' ≡ row))
      → Asked kind makes desk l limit row row' said
  asked_by l row row' bound was left waiting A B priced p =
      MatchResult-weaker (questions l desk.labels desk.queue (desk.fits l.junctions (length l.outlets)) (length row)) p
      (λ _ h. record {
        bound = bound;
        made = h.1;
        lawful = h.2.lawful priced;
        was = was;
        labelled = h.0.plan;
        right = subst (λ t. Right kind bound l limit t row' said) h.0.labels (h.4 priced);
      })
      (λ why h. (h.0, h.2))

-- what a plan's questions let pass within its allowance
pub let_pass : (q : Result Size Refusal) (b : Bool) (s size : Size) → Ok size ≡ then_ask q (cond b (Ok s) (Err EstimatorFit)) → ((x : Size) × (Ok x ≡ q)) × (b ≡ true)
let_pass (Err why) b s size e = let z : ◌≡◌ {A = ℕ} 0 1 = cc in absurd (omega arith)
let_pass (Ok x) true s size e = ((x, refl), refl)
let_pass (Ok x) false s size e = let z : ◌≡◌ {A = ℕ} 0 1 = cc in absurd (omega arith)

and_true : (F b : Bool) → b ≡ true → (F && b) ≡ F
and_true true b e = e
and_true false b e = refl

-- a plan that passed its questions within its allowance was asked for with the whole desk
pub asked_within : {K : Type 0} (kind : Kind K) (makes : Layout K → (ℕ → ℕ → K) → Type 0) (desk : Desk) (a : Allowance) (l : Layout K) (row row' : List ℕ) (said : Result (Plan K) (NoPlan K)) (size : Size)
    → Ok size ≡ then_ask (room_answer l (allowed desk a).labels (allowed desk a).queue) (cond (leb l.junctions a.junctions) (Ok (size_of l)) (Err EstimatorFit))
    → Asked kind makes desk l a.limit row row' said → Asked kind makes (allowed desk a) l a.limit row row' said
asked_within kind makes desk a l row row' said size e asked =
    let passed = let_pass _ (leb l.junctions a.junctions) (size_of l) size e in
    let same = room_more l (min desk.labels a.labels) desk.labels (min desk.queue a.codes) desk.queue passed.0.0 (omega arith) (omega arith) passed.0.1 in
    let fits = and_true (desk.fits l.junctions (length l.outlets)) _ passed.1 in
    subst (λ (b : Bool). MatchResult (then_ask (room_answer l (min desk.labels a.labels) (min desk.queue a.codes)) (cond b (cond (ltb (length row) (length l.runs)) (Err AnswerRow) (Ok (size_of l))) (Err EstimatorFit)))
    (λ _. Sought kind makes l a.limit row row' said) (λ why. (said ≡ Err (Refused why)) × (row' ≡ row))) (sym fits)
    (subst (λ (q : Result Size Refusal). MatchResult (then_ask q (cond (desk.fits l.junctions (length l.outlets)) (cond (ltb (length row) (length l.runs)) (Err AnswerRow) (Ok (size_of l))) (Err EstimatorFit)))
    (λ _. Sought kind makes l a.limit row row' said) (λ why. (said ≡ Err (Refused why)) × (row' ≡ row))) (sym same) asked)

not_let_pass : (K : Type 0) (S : Size → Type 0) (row : List ℕ) (q X : Result Size Refusal) (F b : Bool) (s : Size) (why : Refusal) → Err why ≡ then_ask q (cond b (Ok s) (Err EstimatorFit))
    → MatchResult (then_ask q (cond (F && b) X (Err EstimatorFit))) S (λ w. (◌≡◌ {A = Result (Plan K) (NoPlan K)} (Err (Refused why)) (Err (Refused w))) × (row ≡ row))
not_let_pass K S row (Err w) X F b s why e = let h : why ≡ w = cc in (ap (λ x. Err (Refused x)) h, refl)
not_let_pass K S row (Ok x) X F true s why e = let z : ◌≡◌ {A = ℕ} 0 1 = cc in absurd (omega arith)
not_let_pass K S row (Ok x) X true false s why e = let h : why ≡ EstimatorFit = cc in (ap (λ y. Err (Refused y)) h, refl)
not_let_pass K S row (Ok x) X false false s why e = let h : why ≡ EstimatorFit = cc in (ap (λ y. Err (Refused y)) h, refl)

-- a plan that did not pass them
pub asked_refused : {K : Type 0} (kind : Kind K) (makes : Layout K → (ℕ → ℕ → K) → Type 0) (desk : Desk) (a : Allowance) (l : Layout K) (row : List ℕ) (why : Refusal)
    → Err why ≡ then_ask (room_answer l (allowed desk a).labels (allowed desk a).queue) (cond (leb l.junctions a.junctions) (Ok (size_of l)) (Err EstimatorFit))
    → Asked kind makes (allowed desk a) l a.limit row row (Err (Refused why))
asked_refused {K} kind makes desk a l row why e =
    not_let_pass K (λ _. Sought kind makes l a.limit row row (Err (Refused why))) row (room_answer l (allowed desk a).labels (allowed desk a).queue) (cond (ltb (length row) (length l.runs)) (Err AnswerRow) (Ok (size_of l)))
    (desk.fits l.junctions (length l.outlets)) (leb l.junctions a.junctions) (size_of l) why e

-- a desk that stands offers the same
pub same_offered : {K Q E : Type 0} (lender : Q → List ℕ) (waiting : Q → List (Option K)) (holder : E → List ℕ) (within : E → ℕ → ℕ → Bool) (d d' : LentDesk Q E K)
    → Stands lender waiting holder within d d' → offered waiting within d' ≡ offered waiting within d
same_offered lender waiting holder within d d' s i = desk (s.labels i) (s.ways i) (s.lent i).1.1 (s.room i)

-- a list written over itself
same_items : {X Z : Type 0} (v : Vec X Z) → with_items v v.items ≡ v
same_items v k = record {
  ptr = v.ptr;
  len = v.len;
  cap = v.cap;
  alloc = v.alloc;
  items = is k;
  ok = is_prop→PathP (λ i. (v.len ≡ length (is i)) × (v.len ≤ v.cap)) (λ i. ×_prop (ℕ_set _ _) le_prop) (with_items v v.items).ok v.ok k;
  small = v.small;
}
  where
    is : (with_items v v.items).items ≡ v.items
    is = with_items_is v v.items (sym v.ok.0)

-- a call that was tried, written into its turn
module _ {K : Type 0} (kind : Kind K) (makes : Layout K → (ℕ → ℕ → K) → Type 0) (desk : Desk) (m : Model K) (t : Turn K) (row row' : List ℕ) (reply : Result (Reply K) (NoPlan K))
    (is-row : row ≡ vec_items t.row) (long : length row' ≡ length row) where
  abbrev written : Turn K
  written = record { call = t.call; answer = Some reply; row = with_items t.row row' }

  by_questions : (r : Result (Reply K) (NoPlan K)) → reply ≡ r → row' ≡ row → written ≡ answered t r
  by_questions r is kept =
      ap (λ x. record { call = t.call; answer = Some x; row = with_items t.row row' }) is
      ∙ ap (λ x. record { call = t.call; answer = Some r; row = with_items t.row x }) (kept ∙ is-row)
      ∙ ap (λ x. record { call = t.call; answer = Some r; row = x }) (same_items t.row)

  by_plan : (a : Allowance) → Tried kind makes desk m row row' reply (Planning a) → PlanTried kind makes desk (seen m) a t written
  by_plan a h =
      let filled : row' ≡ vec_items (with_items t.row row') = sym (with_items_is t.row row' (long ∙ ap length is-row ∙ sym t.row.ok.0)) in
      record {
        call = refl;
        said = h.0;
        answer = ap Some h.1;
        asked = subst (λ x. Asked kind makes (allowed desk a) (seen m) a.limit (vec_items t.row) x h.0) filled
            (subst (λ x. Asked kind makes (allowed desk a) (seen m) a.limit x row' h.0) is-row h.2);
      }

  pub answered_by : (call : Call K) → Tried kind makes desk m row row' reply call → ByCall kind makes desk m t written call
  answered_by (Lay a b cost) h = by_questions _ h.0 h.1
  answered_by (Reprice run cost) h = by_questions _ h.0 h.1
  answered_by (Close run) h = by_questions _ h.0 h.1
  answered_by (Open run) h = by_questions _ h.0 h.1
  answered_by (Mark junction) h = by_questions _ h.0 h.1
  answered_by (Unmark junction) h = by_questions _ h.0 h.1
  answered_by (Planning a) h = by_plan a h
