-- Each turn settles one label more, and there are so many at most. Assumes nothing.
use Rattle.std.proofs.Common.{◌≡◌, ℕ, zero, suc, ◌+◌, ◌-◌, ◌*◌, ◌/◌, ◌%◌, ◌<◌, ◌≤◌, true, cond, eqb, ◌≢◌, ◌⊎◌, length, drop, sym, refl, ap, ◌∙◌, subst, inl, inr, ⊎_elim, arith}
use Rattle.std.proofs.lemmas.Nat.{div-add-mod'}
use Rattle.std.proofs.lemmas.Bool.{cases_eq, cases_lt, cond_both, ne_eqb}
use Rattle.network.specs.Layouts.{Layout}
use Rattle.labelling.specs.declared.kinds.Outcome.TheVariants.{Stopped}
use Rattle.labelling.specs.Tables.{Rule, Tables, codes, code_of, reached_at, turn_at}
use Rattle.labelling.specs.Runs.{Ends}
use Rattle.labelling.specs.Turns.{settled, turned}
use Rattle.labelling.specs.Starts.{size_of, goal_of, started, blank, labelling_by, Within}
use Rattle.labelling.specs.Labelling.{Labelled}
use Rattle.labelling.proofs.Taking.{sets_some, junction_within, set_within}
use Rattle.labelling.proofs.Writing.{settled_other, settled_here}
use Rattle.labelling.proofs.Folding.{labelled_ends}
use Rattle.labelling.proofs.Choosing.{least_waits}
use Rattle.labelling.proofs.Ended.{Kept, kept_start, kept_turn, turned_here, turned_other, EndedAs, Ended}
use Rattle.optimal.specs.Counting.{settled_to, JustOne}

abbrev one_if : ℕ → ℕ
one_if n = cond (eqb n 0) 0 1

one_or_none : (n : ℕ) → one_if n ≤ 1
one_or_none n = cond_both (eqb n 0) 0 1 (λ x. x ≤ 1) (λ e. omega arith) (λ e. omega arith)

module _ {K : Type 0} where
  count_same : (t t' : Tables K) (n : ℕ) → ((d : ℕ) → d < n → turn_at t' d ≡ turn_at t d) → settled_to t' n ≡ settled_to t n
  count_same t t' zero h = refl
  count_same t t' (suc n) h =
      ap (λ m. m + one_if (turn_at t' n)) (count_same t t' n (λ d lt. h d (omega arith))) ∙ ap (λ m. settled_to t n + one_if m) (h n (omega arith))

  pub count_none : (t : Tables K) (n : ℕ) → ((d : ℕ) → d < n → turn_at t d ≡ 0) → settled_to t n ≡ 0
  count_none t zero h = refl
  count_none t (suc n) h =
      let a = count_none t n (λ d lt. h d (omega arith)) in
      let b : one_if (turn_at t n) ≡ 0 = ap one_if (h n (omega arith)) in
      omega arith

  -- one code more
  pub count_more : (t t' : Tables K) (c n : ℕ) → c < n → turn_at t c ≡ 0 → (turn_at t' c ≡ 0 → ⊥) → ((d : ℕ) → d ≢ c → turn_at t' d ≡ turn_at t d) → settled_to t' n ≡ settled_to t n + 1
  count_more t t' c zero lt z s h = absurd (omega arith)
  count_more t t' c (suc n) lt z s h = look (count_more t t' c n) (cases_lt c n)
    where
      look : (c < n → turn_at t c ≡ 0 → (turn_at t' c ≡ 0 → ⊥) → ((d : ℕ) → d ≢ c → turn_at t' d ≡ turn_at t d) → settled_to t' n ≡ settled_to t n + 1) → (c < n) ⊎ (n ≤ c) → settled_to t' (suc n) ≡ settled_to t (suc n) + 1
      look ih (inl less) =
          let a = ih less z s h in
          let b : one_if (turn_at t' n) ≡ one_if (turn_at t n) = ap one_if (h n (λ e. omega arith)) in
          omega arith
      look ih (inr ge) =
          let e : n ≡ c = omega arith in
          let a = count_same t t' n (λ d lt. h d (λ q. omega arith)) in
          let b : one_if (turn_at t n) ≡ 0 = ap (λ m. one_if (turn_at t m)) e ∙ ap one_if z in
          let b' : one_if (turn_at t' n) ≡ 1 = ap (λ m. one_if (turn_at t' m)) e ∙ ap (λ y. cond y 0 1) (ne_eqb (turn_at t' c) 0 s) in
          omega arith

  -- where no label with the empty set is settled
  module _ (t : Tables K) (rows width : ℕ) (pos : 0 < width) (some : (v : ℕ) → v < rows → turn_at t (v * width) ≡ 0) where
    row_count : (v : ℕ) → v < rows → settled_to t (v * width) ≤ v * (width - 1) → (j : ℕ) → settled_to t (v * width + j) ≤ v * (width - 1) + (j - 1)
    row_count v lt h zero = let e : v * width + 0 ≡ v * width = omega arith in subst (λ m. settled_to t m ≤ v * (width - 1) + (0 - 1)) (sym e) (omega arith)
    row_count v lt h (suc j) =
        let ih = row_count v lt h j in
        let e : v * width + suc j ≡ suc (v * width + j) = omega arith in
        subst (λ m. settled_to t m ≤ v * (width - 1) + (suc j - 1)) (sym e)
        (⊎_elim
        (λ z.
        let q : one_if (turn_at t (v * width + j)) ≡ 0 = ap (λ m. one_if (turn_at t m)) (let e : v * width + j ≡ v * width = omega arith in e) ∙ ap one_if (some v lt) in
        omega arith)
        (λ ne. let q = one_or_none (turn_at t (v * width + j)) in omega arith)
        (cases_eq j 0))

    pub count_rows : (v : ℕ) → v ≤ rows → settled_to t (v * width) ≤ v * (width - 1)
    count_rows zero le = let e : 0 * width ≡ 0 = omega arith in subst (λ m. settled_to t m ≤ 0 * (width - 1)) (sym e) (omega arith)
    count_rows (suc v) le =
        let ih = count_rows v (omega arith) in
        let h = row_count v (omega arith) ih width in
        let e : v * width + width ≡ suc v * width = omega arith in
        let f : v * (width - 1) + (width - 1) ≡ suc v * (width - 1) = omega arith in
        subst (λ m. settled_to t m ≤ suc v * (width - 1)) e (omega arith)

  -- one turn more: the code c was settled in it
  one_turn : (t t' : Tables K) (c n m : ℕ) → c < m → turn_at t c ≡ 0 → turn_at t' c ≡ n + 1 → ((d : ℕ) → d ≢ c → turn_at t' d ≡ turn_at t d) → ((d : ℕ) → d < m → turn_at t d ≤ n)
      → ((i : ℕ) → 0 < i → i ≤ n → JustOne t m i) → (i : ℕ) → 0 < i → i ≤ n + 1 → JustOne t' m i
  one_turn t t' c n m lt z at same past each i pos le = look (cases_lt i (n + 1))
    where
      look : (i < n + 1) ⊎ (n + 1 ≤ i) → JustOne t' m i
      look (inl less) =
          let q = each i pos (omega arith) in
          let then = q.turn in
          record {
            code = q.code;
            within = q.within;
            turn = same q.code (λ e. let f = ap (turn_at t) e in omega arith) ∙ q.turn;
            alone = λ d dn h. ⊎_elim (λ e. absurd (let f = ap (turn_at t') e in omega arith)) (λ ne. q.alone d dn (sym (same d ne) ∙ h)) (cases_eq d c);
          }
      look (inr ge) = record {
        code = c;
        within = lt;
        turn = omega arith;
        alone = λ d dn h. ⊎_elim (λ e. e) (λ ne. absurd (let f = same d ne in let b = past d dn in omega arith)) (cases_eq d c);
      }

-- ---- the count of the turns
module _ {K : Type 0} (r : Rule K) (l : Layout K) (is : r.size ≡ size_of l) (ends : Ends l.junctions l.runs) (inside : Within l.junctions l.outlets) (some : 0 < length l.outlets)
    (t : Tables K) (in-labels : codes r.size ≤ length t.labels) (in_ways : codes r.size ≤ length t.ways) where
  abbrev Holds : ℕ → Tables K → Type 0
  Holds n s = Kept r l is ends inside some t in-labels in_ways n s × (settled_to s (codes r.size) ≡ n)

  past : (n : ℕ) (s : Tables K) → Kept r l is ends inside some t in-labels in_ways n s → (d : ℕ) → d < codes r.size → turn_at s d ≤ n
  past n s h d lt =
      let e = ap (turn_at s) (div-add-mod' d r.size.sets) in
      let q = h.traced.turns (d / r.size.sets) (d % r.size.sets) (junction_within r.size d lt) (set_within r.size d lt) in
      omega arith

  no_turns : (d : ℕ) → d < codes r.size → turn_at (started r 0 (drop 1 l.outlets) (blank r t)) d ≡ 0
  no_turns d lt = let h = past 0 _ (kept_start r l is ends inside some t in-labels in_ways) d lt in omega arith

  pub counted : (limit : ℕ) → settled_to (labelling_by r l limit t).left (codes r.size) ≡ (labelling_by r l limit t).ending.turns
  counted limit =
      labelled_ends r l.«open» l.runs (goal_of l) limit Holds (λ x. settled_to x.left (codes r.size) ≡ x.ending.turns)
      (λ n s p h lt least ne.
      let w = least_waits r s p least in (
        kept_turn r l is ends inside some t in-labels in_ways n s p h.0 least ne,
        count_more s (turned r l.«open» l.runs (n + 1) s) p.1 (codes r.size) w.within w.fresh
            (λ z. let e = turned_here r l is ends inside some t in-labels in_ways n s p h.0 least in omega arith)
            (turned_other r l is ends inside some t in-labels in_ways n s p h.0 least) ∙ ap (λ m. m + 1) h.1,
      ))
      (λ n s p h lt least e.
      let w = least_waits r s p least in
      let i = w.within in
      let k = h.0.long.ways in
      count_more s (settled s p.1 (n + 1)) p.1 (codes r.size) w.within w.fresh
      (λ z. let e = settled_here s p.1 (n + 1) (omega arith) in omega arith)
      (settled_other s p.1 (n + 1)) ∙ ap (λ m. m + 1) h.1)
      (λ n s h le least. h.1)
      (λ n s p h e least. h.1)
      limit 0 (started r 0 (drop 1 l.outlets) (blank r t)) (omega arith) (kept_start r l is ends inside some t in-labels in_ways, count_none (started r 0 (drop 1 l.outlets) (blank r t)) (codes r.size) no_turns)

  abbrev Each : ℕ → Tables K → Type 0
  Each n s = (i : ℕ) → 0 < i → i ≤ n → JustOne s (codes r.size) i

  pub each_turn : (limit : ℕ) → Each (labelling_by r l limit t).ending.turns (labelling_by r l limit t).left
  each_turn limit =
      labelled_ends r l.«open» l.runs (goal_of l) limit (λ n s. Kept r l is ends inside some t in-labels in_ways n s × Each n s) (λ x. Each x.ending.turns x.left)
      (λ n s p h lt least ne.
      let w = least_waits r s p least in (
        kept_turn r l is ends inside some t in-labels in_ways n s p h.0 least ne,
        one_turn s (turned r l.«open» l.runs (n + 1) s) p.1 n (codes r.size) w.within w.fresh
            (turned_here r l is ends inside some t in-labels in_ways n s p h.0 least) (turned_other r l is ends inside some t in-labels in_ways n s p h.0 least) (past n s h.0) h.1,
      ))
      (λ n s p h lt least e.
      let w = least_waits r s p least in
      let k : p.1 < length s.ways = let a = w.within in let b = h.0.long.ways in omega arith in
      one_turn s (settled s p.1 (n + 1)) p.1 n (codes r.size) w.within w.fresh (settled_here s p.1 (n + 1) k) (settled_other s p.1 (n + 1)) (past n s h.0) h.1)
      (λ n s h le least. h.1)
      (λ n s p h e least. h.1)
      limit 0 (started r 0 (drop 1 l.outlets) (blank r t)) (omega arith) (kept_start r l is ends inside some t in-labels in_ways, λ i pos le. absurd (omega arith))

  -- ---- enough turns
  module _ (limit : ℕ) (enough : r.size.junctions * (r.size.sets - 1) ≤ limit) where
    abbrev x : Labelled K
    x = labelling_by r l limit t

    pub never_stopped : Ended r l limit t (labelling_by r l limit t) → (k : K) → (labelling_by r l limit t).ending.outcome ≡ Stopped k → ⊥
    never_stopped end k e =
        let h = subst (EndedAs r (goal_of l) limit x.ending.turns x.left) e end.how in
        let c : ℕ = h.1.0 in
        let w = least_waits r x.left (k, c) h.1.1 in
        let N = r.size.junctions in
        let S = r.size.sets in
        let pos = sets_some r.size c w.within in
        let in_row : c < length x.left.ways = let a = w.within in let b = end.ways_long in omega arith in
        let one_more = count_more x.left (settled x.left c 1) c (codes r.size) w.within w.fresh (λ z. let q = settled_here x.left c 1 in_row in omega arith) (settled_other x.left c 1) in
        let most = count_rows (settled x.left c 1) N S pos (empty end c in_row w.within w.reached) N (omega arith) in
        let count = counted limit in
        let full = h.0 in
        omega arith
      where
        -- the empty set is never reached
        empty : Ended r l limit t (labelling_by r l limit t) → (c : ℕ) → c < length (labelling_by r l limit t).left.ways → c < codes r.size → (reached_at (labelling_by r l limit t).left c) ≡ true
            → (v : ℕ) → v < r.size.junctions → turn_at (settled (labelling_by r l limit t).left c 1) (v * r.size.sets) ≡ 0
        empty end c in_row within reached v vn =
            let left = (labelling_by r l limit t).left in
            let pos = sets_some r.size c within in
            let S = r.size.sets in
            let zero-code : code_of r.size v 0 ≡ v * S = omega arith in
            ⊎_elim
            (λ e. absurd (end.traced.some v 0 vn pos (ap (λ d. reached_at left d) (zero-code ∙ e) ∙ reached) refl))
            (λ ne. settled_other left c 1 (v * S) ne ∙
            ⊎_elim (λ z. z) (λ s. absurd (end.traced.some v 0 vn pos (end.traced.reached v 0 vn pos (λ z. s (ap (turn_at left) (sym zero-code) ∙ z))) refl)) (cases_eq (turn_at left (v * S)) 0))
            (cases_eq (v * S) c)
