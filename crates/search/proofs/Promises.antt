-- That a plan keeps its promise, from what is right of its labelling. Assumes nothing.
use Rattle.std.proofs.Common.{◌≡◌, ℕ, zero, suc, ◌+◌, ◌-◌, ◌*◌, ◌^◌, ◌<◌, ◌≤◌, Bool, true, false, cond, eqb, ◌⊎◌, List, [], ◌∷◌, ◌++◌, length, get_or, take, drop, replicate, Ok, Err, Result, sym, refl, ap, ◌∙◌, subst, inl, inr, ⊎_elim, arith}
use Rattle.std.proofs.lemmas.List.{get_or-take, length-take-le}
use Rattle.std.proofs.lemmas.Bool.{cond-true, cond-false, eq-eqb, ne_eqb, eqb-true, cases_eq}
use Rattle.network.specs.Costs.{Kind, Laws}
use Rattle.network.specs.Layouts.{Layout, Member, here, there, Climbs, none, more, OpenSet, cost_of, Path, stay, Priced}
use Rattle.network.specs.Bounds.{sets, Lawful}
use Rattle.theory.specs.Derivations.{uses, Same}
use Rattle.theory.proofs.Drawing.{drawing_open, drawing_same}
use Rattle.theory.proofs.Sets.{IsOpen, behead}
use Rattle.labelling.specs.declared.kinds.Outcome.{Outcome}
use Rattle.labelling.specs.declared.kinds.Outcome.TheVariants.{Finished, NoneWaits, Stopped}
use Rattle.labelling.specs.Tables.{Tables, codes, code_of, turn_at}
use Rattle.labelling.specs.Runs.{Ends}
use Rattle.labelling.specs.Labelling.{Labelled}
use Rattle.labelling.specs.Starts.{size_of, rule_of, goal_of, labelling, Within}
use Rattle.labelling.proofs.Starting.{getd_wiped, length_wiped}
use Rattle.labelling.proofs.Ended.{Ended, labelling_ended}
use Rattle.optimal.specs.Drawing.{Shows}
use Rattle.optimal.specs.Theorems.{Given}
use Rattle.optimal.proofs.Deriving.{picked_out}
use Rattle.optimal.proofs.Counting.{counted, each_turn}
use Rattle.optimal.proofs.Rightness.{settles_right, finishes_best, stops_below, none_joins, counts, suffices}
use Rattle.search.specs.declared.answer.Plan.{Plan}
use Rattle.search.specs.declared.answer.NoPlan.{NoPlan}
use Rattle.search.specs.declared.answer.NoPlan.TheVariants.{Refused, Unjoined, Stopped as AtLimit}
use Rattle.search.specs.Planning.{Planned, priced_at, cost_at, no_runs, runs_drawn, ended_by, planned}
use Rattle.search.specs.Promise.{ones_from, marked, CheapestNetwork, Shown, enough, Promised, count_of, RightLabels, Right}
use Rattle.search.proofs.Plans.{concluded_one}

-- ---- bytes that are 1
-- a byte of 1 at the place k, whose number is i
abbrev Found : ℕ → List ℕ → ℕ → Type 0
Found n row i = (k : ℕ) × (i ≡ n + k) × (k < length row) × (get_or row k 0 ≡ 1)

ones_in : (n : ℕ) (row : List ℕ) (i : ℕ) → Member i (ones_from n row) → Found n row i
ones_in n [] i m = elim m [ ]
ones_in n (b ∷ row) i m = look (λ later. ones_in (suc n) row i later) (eqb b 1) refl m
  where
    next : Found (suc n) row i → Found n (b ∷ row) i
    next q = let e = q.1 in let lt = q.2 in (suc q.0, omega arith, omega arith, q.3)

    look : (Member i (ones_from (suc n) row) → Found (suc n) row i) → (y : Bool) → eqb b 1 ≡ y → Member i (cond y (n ∷ ones_from (suc n) row) (ones_from (suc n) row)) → Found n (b ∷ row) i
    look rest true e m = ⊎_elim (λ is. (0, omega arith, omega arith, eqb-true b 1 e)) (λ later. next (rest later)) (behead m)
    look rest false e m = next (rest m)

ones_out : (n : ℕ) (row : List ℕ) (k : ℕ) → k < length row → get_or row k 0 ≡ 1 → Member (n + k) (ones_from n row)
ones_out n [] k lt h = absurd (omega arith)
ones_out n (b ∷ row) zero lt h =
    let first : n ≡ n + 0 = omega arith in
    subst (λ S. Member (n + 0) S) (sym (cond-true (eqb b 1) _ _ (eq-eqb b 1 h))) (subst (λ i. Member i (n ∷ ones_from (suc n) row)) first here)
ones_out n (b ∷ row) (suc k) lt h =
    let e : suc n + k ≡ n + suc k = omega arith in
    look (subst (λ i. Member i (ones_from (suc n) row)) e (ones_out (suc n) row k (omega arith) h)) (eqb b 1)
  where
    look : Member (n + suc k) (ones_from (suc n) row) → (y : Bool) → Member (n + suc k) (cond y (n ∷ ones_from (suc n) row) (ones_from (suc n) row))
    look later true = there later
    look later false = later

module _ {K : Type 0} (l : Layout K) where
  lower : {low : ℕ} {S : List ℕ} → Climbs l (suc low) S → Climbs l low S
  lower none = none
  lower (more le is c) = more (omega arith) is c

  -- where each byte of 1 stands for an open run, their numbers are a set of open runs
  ones_open : (n : ℕ) (row : List ℕ) → ((k : ℕ) → k < length row → get_or row k 0 ≡ 1 → IsOpen l (n + k)) → Climbs l n (ones_from n row)
  ones_open n [] h = none
  ones_open n (b ∷ row) h =
      look (ones_open (suc n) row (λ k lt one. let e : n + suc k ≡ suc n + k = omega arith in subst (IsOpen l) e (h (suc k) (omega arith) one))) (eqb b 1) refl
    where
      look : Climbs l (suc n) (ones_from (suc n) row) → (y : Bool) → eqb b 1 ≡ y → Climbs l n (cond y (n ∷ ones_from (suc n) row) (ones_from (suc n) row))
      look later true e =
          let at : n + 0 ≡ n = omega arith in
          let o = subst (IsOpen l) at (h 0 (omega arith) (eqb-true b 1 e)) in
          more (omega arith) o.1 later
      look later false e = lower later

  member_open : {low i : ℕ} {S : List ℕ} → Climbs l low S → Member i S → IsOpen l i
  member_open none m = elim m [ ]
  member_open (more {r = r} le is c) here = (r, is)
  member_open (more le is c) (there m) = member_open c m

none_one : (n c : ℕ) (ys : List ℕ) → ones_from n (take c (replicate c 0 ++ ys)) ≡ []
none_one n zero ys = refl
none_one n (suc c) ys = none_one (suc n) c ys

member_or : (i : ℕ) (S : List ℕ) → Member i S ⊎ (Member i S → ⊥)
member_or i [] = inr (λ m. elim m [ ])
member_or i (j ∷ S) = look (cases_eq i j) (member_or i S)
  where
    look : (i ≡ j) ⊎ (i ≡ j → ⊥) → Member i S ⊎ (Member i S → ⊥) → Member i (j ∷ S) ⊎ (Member i (j ∷ S) → ⊥)
    look (inl e) q = inl (subst (λ x. Member i (x ∷ S)) e here)
    look (inr ne) (inl m) = inl (there m)
    look (inr ne) (inr out) = inr (λ m. ⊎_elim ne out (behead m))

-- ---- a row that shows open runs marks just these
module _ {K : Type 0} (l : Layout K) (S row after : List ℕ) (room : length l.runs ≤ length row) (is_open : (i : ℕ) → Member i S → IsOpen l i) (shows : Shows S (no_runs l row) after) where
  front : length (take (length l.runs) after) ≡ length l.runs
  front = let long = shows.long in let w = length_wiped 0 (length l.runs) row room in length-take-le (length l.runs) after (omega arith)

  shown : (i : ℕ) → i < length l.runs → get_or (take (length l.runs) after) i 0 ≡ 1 → Member i S
  shown i lt one =
      ⊎_elim (λ m. m)
      (λ out. let e = sym (get_or-take (length l.runs) after i 0 lt) in let o = shows.off i out in let w = getd_wiped 0 (length l.runs) row i 0 lt in absurd (omega arith))
      (member_or i S)

  pub marked_same : Same (marked l after) S
  marked_same = record {
    from = λ i m.
        let q = ones_in 0 (take (length l.runs) after) i m in
        let e = front in
        let at : q.0 ≡ i = let h = q.1 in omega arith in
        subst (λ j. Member j S) at (shown q.0 (let lt = q.2 in omega arith) q.3);
    to = λ i m.
        let o = is_open i m in
        let lt = (picked_out l.runs l.«open» i o.0 o.1).1 in
        let w = length_wiped 0 (length l.runs) row room in
        let e = front in
        let at : 0 + i ≡ i = omega arith in
        subst (λ j. Member j (marked l after)) at (ones_out 0 (take (length l.runs) after) i (omega arith) (get_or-take (length l.runs) after i 0 lt ∙ shows.on i m (omega arith)));
  }

  pub marked_bytes : (i : ℕ) → i < length l.runs → (get_or after i 0 ≡ 0) ⊎ (get_or after i 0 ≡ 1)
  marked_bytes i lt =
      let w = length_wiped 0 (length l.runs) row room in
      ⊎_elim (λ m. inr (shows.on i m (omega arith))) (λ out. inl (shows.off i out ∙ getd_wiped 0 (length l.runs) row i 0 lt)) (member_or i S)

  pub marked_open : OpenSet l (marked l after)
  marked_open = ones_open l 0 (take (length l.runs) after) (λ k lt one. let at : k ≡ 0 + k = omega arith in subst (IsOpen l) at (is_open k (shown k (let e = front in omega arith) one)))

-- ---- one outlet
alone : (xs : List ℕ) (u w : ℕ) → length xs ≡ 1 → Member u xs → Member w xs → u ≡ w
alone [] u w one p q = elim p [ ]
alone (x ∷ []) u w one p q = only p ∙ sym (only q)
  where
    only : {v : ℕ} → Member v (x ∷ []) → v ≡ x
    only m = ⊎_elim (λ e. e) (λ n. elim n [ ]) (behead m)
alone (x ∷ y ∷ xs) u w one p q = absurd (omega arith)

module _ {K : Type 0} (kind : Kind K) (laws : Laws kind) (bound : ℕ → ℕ → K) (l : Layout K) (ends : Ends l.junctions l.runs) (few : length l.runs ≤ 4096)
    (inside : Within l.junctions l.outlets) (some : 0 < length l.outlets) (priced : Priced kind l.runs) (lawful : Lawful kind l bound)
    (t : Tables K) (in-labels : codes (size_of l) ≤ length t.labels) (in_ways : codes (size_of l) ≤ length t.ways) (limit : ℕ) (row : List ℕ) (room : length l.runs ≤ length row) where
  abbrev x : Labelled K
  x = labelling kind bound l limit t

  -- what an answer promises is enough to tell what is answered with enough turns
  by_answer : (row' : List ℕ) (t' : Tables K) (answer : Result (Plan K) (NoPlan K)) → Promised kind bound l limit t' row' answer → count_of answer ≤ limit
      → (length l.outlets ≡ 1 → answer ≡ priced_at kind.zero 0) → RightLabels kind l t' (count_of answer) → Right kind bound l limit t' row' answer
  by_answer row' t' (Ok plan) h within alone labels = record {
    answers = h;
    within = within;
    alone = alone;
    unjoined = λ many hopeless. absurd (hopeless _ h.cheapest.network);
    joined = λ many S net. (plan, refl);
    labels = labels;
  }
  by_answer row' t' (Err (Refused why)) h within alone labels = absurd h
  by_answer row' t' (Err (Unjoined count)) h within alone labels = record {
    answers = h;
    within = within;
    alone = alone;
    unjoined = λ many hopeless. refl;
    joined = λ many S net. absurd (h S net);
    labels = labels;
  }
  by_answer row' t' (Err (AtLimit count floor)) h within alone labels = record {
    answers = h;
    within = within;
    alone = alone;
    unjoined = λ many hopeless. absurd (let few = h.too_few in omega arith);
    joined = λ many S net. absurd (let few = h.too_few in omega arith);
    labels = labels;
  }

  -- ---- several outlets
  module _ (several : 2 ≤ length l.outlets) where
    given : Given kind l bound t
    given = record { formed = record { ends = ends; few = few; several = several; inside = inside }; priced = priced; lawful = lawful; labels = in-labels; ways = in_ways }

    labels_right : RightLabels kind l x.left x.ending.turns
    labels_right =
        let n = counts kind laws l bound t given limit in
        record {
          recurs = λ v I s. (settles_right kind laws l bound t given limit v I s).0;
          least = λ v I s. (settles_right kind laws l bound t given limit v I s).1;
          counted = n.0;
          in_turn = n.2;
        }

    within_limit : x.ending.turns ≤ limit
    within_limit = (counts kind laws l bound t given limit).1

    two : {G : Type 0} → length l.outlets ≡ 1 → G
    two one = absurd (omega arith)

    finished : x.ending.outcome ≡ Finished → Shown kind l (runs_drawn l x.left x.ending.turns row) (cost_at kind x.left (goal_of l))
    finished done =
        let best = (finishes_best kind laws l bound t given limit done).1 in
        let d = best.derived in
        let shows = best.shown (suc x.ending.turns) (no_runs l row) (omega arith) in
        let open_in : (i : ℕ) → Member i (uses d) → IsOpen l i = λ i m. member_open l (drawing_open d) ((drawing_same d).to i m) in
        let after : List ℕ = runs_drawn l x.left x.ending.turns row in
        let is_set = marked_open l (uses d) row after room open_in shows in
        let j = best.joins (marked l after) is_set (marked_same l (uses d) row after room open_in shows) in
        record {
          bytes = marked_bytes l (uses d) row after room open_in shows;
          cheapest = record { network = record { is_open = is_set; joins = j.0 }; costs = j.1; least = λ S net. best.least S net.is_open net.joins };
        }

    too_few : (k : K) → x.ending.outcome ≡ Stopped k → limit < enough l
    too_few k at = ⊎_elim (λ lt. lt) (λ le. absurd ((suffices kind laws l bound t given limit le).0 k at)) (less_or limit (enough l))
      where
        less_or : (a b : ℕ) → (a < b) ⊎ (b ≤ a)
        less_or zero zero = inr (omega arith)
        less_or zero (suc b) = inl (omega arith)
        less_or (suc a) zero = inr (omega arith)
        less_or (suc a) (suc b) = ⊎_elim (λ lt. inl (omega arith)) (λ le. inr (omega arith)) (less_or a b)

    by_outcome : (o : Outcome K) → x.ending.outcome ≡ o → Right kind bound l limit x.left (ended_by kind l x.left x.ending.turns o row).row (ended_by kind l x.left x.ending.turns o row).answer
    by_outcome Finished at = by_answer _ x.left (priced_at (cost_at kind x.left (goal_of l)) x.ending.turns) (finished at) within_limit two labels_right
    by_outcome NoneWaits at = by_answer row x.left (Err (Unjoined x.ending.turns)) (λ S net. none_joins kind laws l bound t given limit at S net.is_open net.joins) within_limit two labels_right
    by_outcome (Stopped k) at =
        let h = stops_below kind laws l bound t given limit k at in
        by_answer row x.left (Err (AtLimit x.ending.turns k))
        (record { at_limit = h.0; too_few = too_few k at; waits = h.1; bounds = λ S net. h.2 S net.is_open net.joins })
        within_limit two labels_right

    promise_several : Right kind bound l limit x.left (planned kind bound l limit t row).row (planned kind bound l limit t row).answer
    promise_several =
        subst (λ (p : Planned K). Right kind bound l limit x.left p.row p.answer) (sym (cond-false (eqb (length l.outlets) 1) _ _ (ne_eqb (length l.outlets) 1 (λ e. omega arith))))
        (by_outcome x.ending.outcome refl)

  -- ---- one outlet
  module _ (one : length l.outlets ≡ 1) where
    end : Ended (rule_of kind bound l) l limit t x
    end = labelling_ended (rule_of kind bound l) l refl ends inside some t in-labels in_ways limit

    one_set : sets l ≡ 1
    one_set = ap (λ n. 2 ^ (n - 1)) one

    -- there is no set but the empty one, and that is never settled
    unsettled : {G : Type 0} (v I : ℕ) → v < l.junctions → I < sets l → (turn_at x.left (code_of (size_of l) v I) ≡ 0 → ⊥) → G
    unsettled v I vn In was =
        let e = one_set in
        absurd (end.traced.some v I vn In (end.traced.reached v I vn In was) (omega arith))

    no_turn : x.ending.turns ≡ 0
    no_turn = look (cases_eq x.ending.turns 0)
      where
        look : (x.ending.turns ≡ 0) ⊎ (x.ending.turns ≡ 0 → ⊥) → x.ending.turns ≡ 0
        look (inl z) = z
        look (inr n) =
            let j = each_turn (rule_of kind bound l) l refl ends inside some t in-labels in_ways limit 1 (omega arith) (positive x.ending.turns n) in
            let e = one_set in
            let all : codes (size_of l) ≡ l.junctions = ap (λ n. l.junctions * n) e ∙ omega arith in
            let at : code_of (size_of l) j.code 0 ≡ j.code = ap (λ n. j.code * n + 0) e ∙ omega arith in
            let turn = j.turn in
            let lt = j.within in
            unsettled j.code 0 (omega arith) (omega arith) (λ z. let h = ap (turn_at x.left) at in omega arith)
          where
            positive : (n : ℕ) → (n ≡ 0 → ⊥) → 1 ≤ n
            positive zero h = absurd (h refl)
            positive (suc n) h = omega arith

    labels_one : RightLabels kind l x.left 0
    labels_one = record {
      recurs = λ v I s. unsettled v I s.junction s.outlets s.turned;
      least = λ v I s. unsettled v I s.junction s.outlets s.turned;
      counted = counted (rule_of kind bound l) l refl ends inside some t in-labels in_ways limit ∙ no_turn;
      in_turn = λ i pos le. absurd (omega arith);
    }

    nothing : CheapestNetwork kind l (marked l (no_runs l row)) kind.zero
    nothing =
        subst (λ S. CheapestNetwork kind l S kind.zero) (sym (none_one 0 (length l.runs) (drop (length l.runs) row)))
        (record {
          network = record { is_open = none; joins = λ u w p q. subst (Path l [] u) (alone l.outlets u w one p q) stay };
          costs = refl;
          least = λ S net. laws.least (cost_of kind l S);
        })

    promise_one : Right kind bound l limit x.left (planned kind bound l limit t row).row (planned kind bound l limit t row).answer
    promise_one =
        subst (λ (p : Planned K). Right kind bound l limit x.left p.row p.answer) (sym (concluded_one kind l x row one))
        (by_answer _ x.left (priced_at kind.zero 0) (record { bytes = λ i lt. inl (getd_wiped 0 (length l.runs) row i 0 lt); cheapest = nothing }) (omega arith) (λ e. refl) labels_one)

  -- what a plan left keeps the promise
  pub promise : (p : Planned K) (after : Tables K) → p ≡ planned kind bound l limit t row → after ≡ (labelling kind bound l limit t).left → Right kind bound l limit after p.row p.answer
  promise p after is-p is-after =
      subst (λ (s : Tables K). Right kind bound l limit s p.row p.answer) (sym is-after)
      (subst (λ (q : Planned K). Right kind bound l limit x.left q.row q.answer) (sym is-p)
      (⊎_elim promise_one (λ n. promise_several (more_than_one (length l.outlets) some n)) (cases_eq (length l.outlets) 1)))
    where
      more_than_one : (n : ℕ) → 0 < n → (n ≡ 1 → ⊥) → 2 ≤ n
      more_than_one zero pos ne = absurd (omega arith)
      more_than_one (suc zero) pos ne = absurd (ne refl)
      more_than_one (suc (suc n)) pos ne = omega arith
