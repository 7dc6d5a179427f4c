-- The places of the outlets: what the rounds leave are distances. Assumes nothing.
use Rattle.std.proofs.Common.{◌≡◌, ℕ, zero, suc, ◌+◌, ◌*◌, ◌<◌, ◌≤◌, Bool, true, false, cond, ◌≢◌, ◌⊎◌, List, [], ◌∷◌, ◌++◌, length, get_or, set, replicate, Some, None, Option, sym, refl, ap, ◌∙◌, subst, inl, inr, arith}
use lib.ListN.{length-replicate}
use Rattle.std.proofs.lemmas.List.{length-set, get_or_past, get_or-replicate, get_or-set_same, get_or-set_other}
use Rattle.std.proofs.lemmas.Bool.{cases_lt, cases_eq, both_ways}
use Rattle.network.specs.Costs.{Kind, Laws}
use Rattle.network.specs.declared.run.Run.{Run}
use Rattle.network.specs.Layouts.{Layout}
use Rattle.farthest.specs.Trials.{open_runs, Arc, arc, run_arcs, round_arcs, improves, tried, with_outlets, table}
use Rattle.farthest.proofs.Graph.{Spans, Joins, here, there, Way, Within, Part, total, Walk, stand, step, Cheapest}
use Rattle.network.proofs.Order.{le_eq, le_trans, le_plus}
use Rattle.farthest.proofs.Rounds.{Among, this, next, Holds, none_some, some_same, Known, Small, Fit, Path, done, over, known_more, tried_from, tried_keeps, rounds_known, rounds_sound}
use Rattle.farthest.proofs.Walks.{joins_nil, joins_back, Taken, take_out, without_to, without_total, part_split, part_again, nothing_of, part_within, part_length, part_total, wider, shorten, walk_of, way_of}

-- ---- the arcs of a round

among_left : {K : Type 0} {a : Arc K} {xs : List (Arc K)} → Among a xs → (ys : List (Arc K)) → Among a (xs ++ ys)
among_left this ys = this
among_left (next i) ys = next (among_left i ys)

among_right : {K : Type 0} {a : Arc K} (xs : List (Arc K)) {ys : List (Arc K)} → Among a ys → Among a (xs ++ ys)
among_right [] i = i
among_right (x ∷ xs) i = next (among_right xs i)

among_split : {K : Type 0} {a : Arc K} (xs ys : List (Arc K)) → Among a (xs ++ ys) → Among a xs ⊎ Among a ys
among_split [] ys i = inr i
among_split (x ∷ xs) ys this = inl this
among_split (x ∷ xs) ys (next i) = elim (among_split xs ys i) [ inl p ↦ inl (next p) | inr p ↦ inr p ]

among_nil : {K : Type 0} {a : Arc K} → Among a [] → ⊥
among_nil = elim [ ]

-- where an arc comes from
record ArcOf {K : Type 0} (n : ℕ) (E : List (Run K)) (a : Arc K) : Type 0 where
  u : ℕ
  w : ℕ
  j : ℕ
  few : j < n
  is_from : a.from ≡ w * 12 + j
  is_to : a.to ≡ u * 12 + j
  joins : Joins u w a.cost E

module _ {K : Type 0} where
  arc_more : {n : ℕ} {E : List (Run K)} {a : Arc K} {r : Run K} → ArcOf n E a → ArcOf n (r ∷ E) a
  arc_more x = record { u = x.u; w = x.w; j = x.j; few = x.few; is_from = x.is_from; is_to = x.is_to; joins = there x.joins }

  run_arcs_from : (n : ℕ) (r : Run K) (E : List (Run K)) {a : Arc K} → Among a (run_arcs n r) → ArcOf n (r ∷ E) a
  run_arcs_from zero r E i = absurd (among_nil i)
  run_arcs_from (suc n) r E {a} i = look (among_split (run_arcs n r) _ i) (run_arcs_from n r E)
    where
      here_of : {a : Arc K} → Among a (arc (r.b * 12 + n) (r.a * 12 + n) r.cost ∷ arc (r.a * 12 + n) (r.b * 12 + n) r.cost ∷ []) → ArcOf (suc n) (r ∷ E) a
      here_of this = record { u = r.a; w = r.b; j = n; few = omega arith; is_from = refl; is_to = refl; joins = here (inl (record { starts = refl; stops = refl; costs = refl })) }
      here_of (next this) = record { u = r.b; w = r.a; j = n; few = omega arith; is_from = refl; is_to = refl; joins = here (inr (record { starts = refl; stops = refl; costs = refl })) }
      here_of (next (next i)) = absurd (among_nil i)

      look : Among a (run_arcs n r) ⊎ Among a (arc (r.b * 12 + n) (r.a * 12 + n) r.cost ∷ arc (r.a * 12 + n) (r.b * 12 + n) r.cost ∷ []) → (Among a (run_arcs n r) → ArcOf n (r ∷ E) a) → ArcOf (suc n) (r ∷ E) a
      look (inl p) f = let x = f p in record { u = x.u; w = x.w; j = x.j; few = let l = x.few in omega arith; is_from = x.is_from; is_to = x.is_to; joins = x.joins }
      look (inr p) f = here_of p

  arcs_from : (n : ℕ) (E : List (Run K)) {a : Arc K} → Among a (round_arcs n E) → ArcOf n E a
  arcs_from n [] i = absurd (among_nil i)
  arcs_from n (r ∷ E) i = elim (among_split (run_arcs n r) (round_arcs n E) i) [ inl p ↦ run_arcs_from n r E p | inr p ↦ arc_more (arcs_from n E p) ]

  run_arcs_to : (n j : ℕ) (r : Run K) → j < n → Among (arc (r.b * 12 + j) (r.a * 12 + j) r.cost) (run_arcs n r) × Among (arc (r.a * 12 + j) (r.b * 12 + j) r.cost) (run_arcs n r)
  run_arcs_to zero j r l = absurd (omega arith)
  run_arcs_to (suc n) j r l = look (cases_eq j n) (run_arcs_to n j r)
    where
      look : (j ≡ n) ⊎ (j ≡ n → ⊥) → (j < n → Among (arc (r.b * 12 + j) (r.a * 12 + j) r.cost) (run_arcs n r) × Among (arc (r.a * 12 + j) (r.b * 12 + j) r.cost) (run_arcs n r)) → Among (arc (r.b * 12 + j) (r.a * 12 + j) r.cost) (run_arcs (suc n) r) × Among (arc (r.a * 12 + j) (r.b * 12 + j) r.cost) (run_arcs (suc n) r)
      look (inl e) f = subst (λ i. Among (arc (r.b * 12 + i) (r.a * 12 + i) r.cost) (run_arcs (suc n) r) × Among (arc (r.a * 12 + i) (r.b * 12 + i) r.cost) (run_arcs (suc n) r)) (sym e) (among_right (run_arcs n r) this, among_right (run_arcs n r) (next this))
      look (inr m) f = let p = f (omega arith) in (among_left p.0 _, among_left p.1 _)

  -- each step along a run is an arc, for each outlet
  arcs_to : (n j : ℕ) (E : List (Run K)) {u w : ℕ} {k : K} → j < n → Joins u w k E → Among (arc (w * 12 + j) (u * 12 + j) k) (round_arcs n E)
  arcs_to n j [] l i = absurd (joins_nil i)
  arcs_to n j (r ∷ E) {u} {w} {k} l (here (inl s)) =
      among_left (subst (λ x. Among x (run_arcs n r)) (λ i. arc (s.stops i * 12 + j) (s.starts i * 12 + j) (s.costs i)) (run_arcs_to n j r l).0) (round_arcs n E)
  arcs_to n j (r ∷ E) {u} {w} {k} l (here (inr s)) =
      among_left (subst (λ x. Among x (run_arcs n r)) (λ i. arc (s.starts i * 12 + j) (s.stops i * 12 + j) (s.costs i)) (run_arcs_to n j r l).1) (round_arcs n E)
  arcs_to n j (r ∷ E) l (there i) = among_right (run_arcs n r) (arcs_to n j E l i)

  pub length_open : (rs : List (Run K)) (os : List Bool) → length (open_runs rs os) ≤ length rs
  length_open [] os = omega arith
  length_open (r ∷ rs) [] = omega arith
  length_open (r ∷ rs) (o ∷ os) = look o (length_open rs os)
    where
      look : (o : Bool) → length (open_runs rs os) ≤ length rs → length (cond o (r ∷ open_runs rs os) (open_runs rs os)) ≤ length (r ∷ rs)
      look true h = omega arith
      look false h = omega arith

-- ---- where the rounds start

module _ {K : Type 0} (kind : Kind K) (ps : List ℕ) (ds : List (Option K)) where
  outlets_length : (n : ℕ) → length (with_outlets kind n ps ds) ≡ length ds
  outlets_length zero = refl
  outlets_length (suc n) = length-set (with_outlets kind n ps ds) (get_or ps n 0 * 12 + n) (Some kind.zero) ∙ outlets_length n

  outlets_from : ((p : ℕ) → get_or ds p None ≡ None) → (n p : ℕ) (d : K) → Holds (with_outlets kind n ps ds) p d → (j : ℕ) × (j < n) × (p ≡ get_or ps j 0 * 12 + j) × (d ≡ kind.zero)
  outlets_from f zero p d h = none_some (sym (f p) ∙ h)
  outlets_from f (suc n) p d h = look (cases_eq p (get_or ps n 0 * 12 + n)) (outlets_from f n p d)
    where
      look : (p ≡ get_or ps n 0 * 12 + n) ⊎ (p ≡ get_or ps n 0 * 12 + n → ⊥) → (Holds (with_outlets kind n ps ds) p d → (j : ℕ) × (j < n) × (p ≡ get_or ps j 0 * 12 + j) × (d ≡ kind.zero)) → (j : ℕ) × (j < suc n) × (p ≡ get_or ps j 0 * 12 + j) × (d ≡ kind.zero)
      look (inl e) g = elim (cases_lt p (length (with_outlets kind n ps ds))) [
        | inl l ↦ (n, omega arith, e, some_same (sym h ∙ (ap (λ i. get_or (set (with_outlets kind n ps ds) i (Some kind.zero)) p None) (sym e) ∙ get_or-set_same (with_outlets kind n ps ds) p (Some kind.zero) None l)))
        | inr m ↦ none_some (sym (get_or_past _ p None (let e = length-set (with_outlets kind n ps ds) (get_or ps n 0 * 12 + n) (Some kind.zero) in omega arith)) ∙ h)
      ]
      look (inr m) g = let x = g (sym (get_or-set_other (with_outlets kind n ps ds) (get_or ps n 0 * 12 + n) p (Some kind.zero) None m) ∙ h) in (x.0, let l = x.1 in omega arith, x.2, x.3)

  outlets_at : (n j : ℕ) → j < n → get_or ps j 0 * 12 + j < length ds → Holds (with_outlets kind n ps ds) (get_or ps j 0 * 12 + j) kind.zero
  outlets_at zero j l m = absurd (omega arith)
  outlets_at (suc n) j l m = look (cases_eq (get_or ps j 0 * 12 + j) (get_or ps n 0 * 12 + n)) (outlets_at n j)
    where
      look : (get_or ps j 0 * 12 + j ≡ get_or ps n 0 * 12 + n) ⊎ (get_or ps j 0 * 12 + j ≡ get_or ps n 0 * 12 + n → ⊥) → (j < n → get_or ps j 0 * 12 + j < length ds → Holds (with_outlets kind n ps ds) (get_or ps j 0 * 12 + j) kind.zero) → Holds (with_outlets kind (suc n) ps ds) (get_or ps j 0 * 12 + j) kind.zero
      look (inl e) f = ap (λ i. get_or (set (with_outlets kind n ps ds) i (Some kind.zero)) (get_or ps j 0 * 12 + j) None) (sym e) ∙ get_or-set_same (with_outlets kind n ps ds) (get_or ps j 0 * 12 + j) (Some kind.zero) None (let q = outlets_length n in omega arith)
      look (inr n') f = get_or-set_other (with_outlets kind n ps ds) (get_or ps n 0 * 12 + n) (get_or ps j 0 * 12 + j) (Some kind.zero) None n' ∙ (let ne : j ≢ n = λ e. n' (ap (λ i. get_or ps i 0 * 12 + i) e) in f (omega arith) m)

-- ---- the distances

-- what is known of a district
pub record Facts {K : Type 0} (kind : Kind K) (s : Layout K) : Type 0 where
  pub few : length s.outlets ≤ 12
  pub laid : length s.runs ≤ 4096
  pub ends : (u w : ℕ) (c : K) → Joins u w c (open_runs s.runs s.«open») → (u < s.junctions) × (w < s.junctions)
  pub prices : (u w : ℕ) (c : K) → Joins u w c (open_runs s.runs s.«open») → kind.bulk c ≤ 1000000
  pub inside : (j : ℕ) → j < length s.outlets → get_or s.outlets j 0 < s.junctions

module _ {K : Type 0} {kind : Kind K} (laws : Laws kind)
    (s : Layout K) (facts : Facts kind s) where
  infix 40 ◌⊑◌
  abbrev ◌⊑◌ : K → K → Type 0
  a ⊑ b = kind.below b a ≡ false

  abbrev rs : List (Run K)
  rs = s.runs

  abbrev os : List Bool
  os = s.«open»

  abbrev ps : List ℕ
  ps = s.outlets

  abbrev k : ℕ
  k = length s.outlets

  abbrev n : ℕ
  n = s.junctions

  abbrev arcs : List (Arc K)
  arcs = round_arcs k (open_runs rs os)

  abbrev start : List (Option K)
  start = with_outlets kind k ps (replicate (n * 12) None)

  abbrev found : List (Option K)
  found = table kind n rs os k ps

  no_start : (p : ℕ) → get_or {A = Option K} (replicate (n * 12) None) p None ≡ None
  no_start p = elim (cases_lt p (n * 12)) [ inl l ↦ get_or-replicate (n * 12) p None None l | inr g ↦ get_or_past (replicate (n * 12) None) p None (omega (arith, length-replicate {A = Option K} (n * 12) None)) ]

  start_length : length start ≡ n * 12
  start_length = outlets_length kind ps (replicate (n * 12) None) k ∙ length-replicate (n * 12) None

  -- a set of open runs is not bulky
  pub part_bulk : (T : List (Run K)) → Within T (open_runs rs os) → kind.bulk (total kind T) ≤ length T * 1000000
  part_bulk [] f = let z = laws.bulk_zero in omega arith
  part_bulk (e ∷ T) f =
      let h = part_bulk T (λ u w c j. f u w c (there j)) in
      let p = facts.prices e.a e.b e.cost (f _ _ _ (here (inl (record { starts = refl; stops = refl; costs = refl })))) in
      let q = laws.bulk_plus e.cost (total kind T) in
      omega arith

  -- d is the cost of a set of open runs, and both ends of each of them are known at no more than d
  record Trail (ds : List (Option K)) (p : ℕ) (d : K) : Type 0 where
    v : ℕ
    j : ℕ
    few : j < k
    is : p ≡ v * 12 + j
    set : List (Run K)
    part : Part set (open_runs rs os)
    costs : total kind set ≡ d
    ends : (u w : ℕ) (c : K) → Joins u w c set → Known laws ds (u * 12 + j) d

  abbrev Trails : List (Option K) → Type 0
  Trails ds = (p : ℕ) (d : K) → Holds ds p d → Trail ds p d

  trails_start : Trails start
  trails_start p d h =
      let x = outlets_from kind ps (replicate (n * 12) None) no_start k p d h in
      record { v = get_or ps x.0 0; j = x.0; few = x.1; is = x.2; set = []; part = nothing_of (open_runs rs os); costs = sym x.3; ends = λ u w c i. absurd (joins_nil i) }

  trails_small : (ds : List (Option K)) → Trails ds → Small laws 4096000000 ds
  trails_small ds f p d h =
      let t = f p d h in
      let e = ap kind.bulk t.costs in
      let b = part_bulk t.set (part_within t.part) in
      let l = part_length t.part in
      let o = length_open rs os in
      let m = facts.laid in
      omega arith

  kept : (a : Arc K) (ds : List (Option K)) {q : ℕ} {c d : K} → Known laws ds q c → c ⊑ d → Known laws (tried kind a ds) q d
  kept a ds {q} x l = let y = tried_keeps laws a ds q x.cost x.holds in known_more laws (known_more laws y x.most) l

  -- a cost that improves comes over a run that was not used
  trails_arc : (a : Arc K) → ArcOf k (open_runs rs os) a → (ds : List (Option K)) → Trails ds → (d b : K) → Holds ds a.from b → d ≡ kind.plus b a.cost
      → improves kind (get_or ds a.to None) d ≡ true → Holds (tried kind a ds) a.to d → Trail (tried kind a ds) a.to d
  trails_arc a x ds f d b h e i now = look (part_split t.out r.part)
    where
      t : Taken (open_runs rs os) x.u x.w a.cost
      t = take_out x.joins

      r : Trail ds a.from b
      r = f a.from b h

      more : b ⊑ d
      more = le_trans laws _ _ _ (le_plus laws b a.cost) (le_eq laws (sym e))

      same : r.j ≡ x.j
      same = let p = r.is in let q = x.is_from in let l = r.few in let m = x.few in let y = facts.few in omega arith

      costs : t.run.cost ≡ a.cost
      costs = elim t.spans [ inl s ↦ s.costs | inr s ↦ s.costs ]

      at_u : Known laws (tried kind a ds) (x.u * 12 + x.j) d
      at_u = subst (λ p. Known laws (tried kind a ds) p d) x.is_to (record { cost = d; holds = now; most = laws.irrefl d })

      at_w : Known laws (tried kind a ds) (x.w * 12 + x.j) d
      at_w = kept a ds (subst (λ p. Known laws ds p b) x.is_from (record { cost = b; holds = h; most = laws.irrefl b })) more

      old : {u w : ℕ} {c : K} → Joins u w c r.set → Known laws ds (u * 12 + x.j) b
      old {u} {w} {c} j = subst (λ i. Known laws ds (u * 12 + i) b) same (r.ends u w c j)

      end : {u w : ℕ} {c : K} → Spans t.run x.u x.w a.cost → Spans t.run u w c → Known laws (tried kind a ds) (u * 12 + x.j) d
      end {u} (inl s) (inl y) = subst (λ z. Known laws (tried kind a ds) (z * 12 + x.j) d) (sym s.starts ∙ y.starts) at_u
      end {u} (inl s) (inr y) = subst (λ z. Known laws (tried kind a ds) (z * 12 + x.j) d) (sym s.stops ∙ y.stops) at_w
      end {u} (inr s) (inl y) = subst (λ z. Known laws (tried kind a ds) (z * 12 + x.j) d) (sym s.starts ∙ y.starts) at_w
      end {u} (inr s) (inr y) = subst (λ z. Known laws (tried kind a ds) (z * 12 + x.j) d) (sym s.stops ∙ y.stops) at_u

      -- the improved place was known at no more than b
      worse : {G : Type 0} → Known laws ds (x.u * 12 + x.j) b → G
      worse y =
          let z = subst (λ p. Known laws ds p b) (sym x.is_to) y in
          let less : kind.below d z.cost ≡ true = ap (λ o. improves kind o d) (sym z.holds) ∙ i in
          absurd (both_ways (kind.below d z.cost) (le_trans laws _ _ _ z.most more) less)

      used : {G : Type 0} → Spans t.run x.u x.w a.cost → Joins t.run.a t.run.b t.run.cost r.set → G
      used (inl s) j = worse (subst (λ z. Known laws ds (z * 12 + x.j) b) s.starts (old j))
      used (inr s) j = worse (subst (λ z. Known laws ds (z * 12 + x.j) b) s.stops (old (joins_back j)))

      look : Part r.set t.rest ⊎ Joins t.run.a t.run.b t.run.cost r.set → Trail (tried kind a ds) a.to d
      look (inr j) = used t.spans j
      look (inl p) =
          let y = part_again t.out p in
          record {
            v = x.u;
            j = x.j;
            few = x.few;
            is = x.is_to;
            set = y.set;
            part = y.part;
            costs = without_total laws y.out ∙ (laws.comm _ _ ∙ ((λ i. kind.plus (r.costs i) (costs i)) ∙ sym e));
            ends = λ u w c j. elim (without_to y.out u w c j) [ here s ↦ end t.spans s | there j ↦ kept a ds (old j) more ];
          }

  trails_keep : (a : Arc K) → Among a arcs → (ds : List (Option K)) → Trails ds → Trails (tried kind a ds)
  trails_keep a i ds f p d h = elim (tried_from laws a ds p d h) [
    | inl x ↦ let t = f p d x in record { v = t.v; j = t.j; few = t.few; is = t.is; set = t.set; part = t.part; costs = t.costs; ends = λ u w c j. kept a ds (t.ends u w c j) (laws.irrefl d) }
    | inr x ↦ subst (λ q. Trail (tried kind a ds) q d) (sym x.0) (trails_arc a (arcs_from k (open_runs rs os) i) ds f d x.1.0 x.1.1 x.1.2 x.2 (subst (λ q. Holds (tried kind a ds) q d) x.0 h))
  ]

  fit : Fit laws (length start) 4096000000 1000000 Trails arcs
  fit = record {
    to_place = λ a i. let x = arcs_from k (open_runs rs os) i in let y = (facts.ends _ _ _ x.joins).0 in let e = x.is_to in let l = x.few in let m = facts.few in let t = start_length in omega arith;
    bulk_most = λ a i. facts.prices _ _ _ (arcs_from k (open_runs rs os) i).joins;
    keeps = trails_keep;
    small = trails_small;
    exact = omega arith;
  }

  path_of : (j : ℕ) → j < k → {v w m : ℕ} {c : K} → Walk kind (open_runs rs os) v w m c → w ≡ get_or ps j 0 → Path laws arcs start (v * 12 + j) m c
  path_of j l {v} stand e =
      let at : v * 12 + j ≡ get_or ps j 0 * 12 + j = ap (λ i. i * 12 + j) e in
      let q = facts.inside j l in
      let f = facts.few in
      done (subst (λ p. Holds start p kind.zero) (sym at) (outlets_at kind ps (replicate (n * 12) None) k j l (omega (arith, length-replicate {A = Option K} (n * 12) None))))
  path_of j l (step i p) e = over (arcs_to k j (open_runs rs os) l i) (path_of j l p e)

  -- no walk to an outlet is cheaper than what is found
  pub found_least : (j : ℕ) → j < k → {v m : ℕ} {c : K} → Walk kind (open_runs rs os) v (get_or ps j 0) m c → Known laws found (v * 12 + j) c
  found_least j l p =
      let t = shorten laws p in
      let a = part_length t.part in
      let b = t.few in
      let c = length_open rs os in
      known_more laws (rounds_known laws arcs 4096000000 1000000 Trails start fit trails_start (length rs) (path_of j l (wider laws (part_within t.part) t.walk) refl) (omega arith)) t.cheap

  -- what is found is the cost of a walk to an outlet
  abbrev Reached : ℕ → K → Type 0
  Reached p d = (v j : ℕ) × (j < k) × (p ≡ v * 12 + j) × ((m : ℕ) × Walk kind (open_runs rs os) v (get_or ps j 0) m d)

  over_arc : (a : Arc K) → Among a arcs → (d : K) → Reached a.from d → Reached a.to (kind.plus d a.cost)
  over_arc a i d r =
      let x = arcs_from k (open_runs rs os) i in
      let f = facts.few in
      let l = x.few in
      let l' = r.2 in
      let p = x.is_from in
      let q = r.3 in
      let t = x.is_to in
      let at : r.0 ≡ x.w = omega arith in
      let same : x.j ≡ r.1 = omega arith in
      (x.u, r.1, l', omega arith, (suc r.4.0, step x.joins (subst (λ y. Walk kind (open_runs rs os) y (get_or ps r.1 0) r.4.0 d) at r.4.1)))

  at_start : (p : ℕ) (d : K) → Holds start p d → Reached p d
  at_start p d h =
      let x = outlets_from kind ps (replicate (n * 12) None) no_start k p d h in
      (get_or ps x.0 0, x.0, x.1, x.2, (0, subst (Walk kind (open_runs rs os) (get_or ps x.0 0) (get_or ps x.0 0) 0) (sym x.3) stand))

  pub found_walk : (v j : ℕ) (d : K) → j < k → Holds found (v * 12 + j) d → (m : ℕ) × Walk kind (open_runs rs os) v (get_or ps j 0) m d
  found_walk v j d l h =
      let r = rounds_sound laws arcs Reached over_arc start at_start (length rs) (v * 12 + j) d h in
      let f = facts.few in
      let l' = r.2 in
      let q = r.3 in
      let at : r.0 ≡ v = omega arith in
      let same : r.1 ≡ j = omega arith in
      (r.4.0, subst (λ i. Walk kind (open_runs rs os) v (get_or ps i 0) r.4.0 d) same (subst (λ y. Walk kind (open_runs rs os) y (get_or ps r.1 0) r.4.0 d) at r.4.1))

  -- no set of open runs that joins v and an outlet is cheaper than what is found
  pub found_below : (v j : ℕ) → j < k → (S : List (Run K)) → Part S (open_runs rs os) → Way S v (get_or ps j 0) → Known laws found (v * 12 + j) (total kind S)
  found_below v j l S part way =
      let t = shorten laws (walk_of laws way).2 in
      known_more laws (found_least j l (wider laws (λ x y z i. part_within part x y z (part_within t.part x y z i)) t.walk)) (part_total laws t.part)

  known_is : (v j : ℕ) (c d : K) → Holds found (v * 12 + j) d → Known laws found (v * 12 + j) c → d ⊑ c
  known_is v j c d h x = let e : x.cost ≡ d = some_same (sym x.holds ∙ h) in le_trans laws _ _ _ (le_eq laws (sym e)) x.most

  pub found_cheapest : (v j : ℕ) (d : K) → j < k → Holds found (v * 12 + j) d → Cheapest kind (open_runs rs os) v (get_or ps j 0) d
  found_cheapest v j d l h =
      let t = shorten laws (found_walk v j d l h).1 in
      let low : d ⊑ total kind t.set = known_is v j _ d h (found_least j l (wider laws (part_within t.part) t.walk)) in
      record {
        set = t.set;
        part = t.part;
        joins = way_of laws t.walk;
        costs = laws.equal _ _ low t.cheap;
        least = λ S part way. known_is v j _ d h (found_below v j l S part way);
      }

  pub found_none : (v j : ℕ) → j < k → get_or found (v * 12 + j) None ≡ None → Way (open_runs rs os) v (get_or ps j 0) → ⊥
  found_none v j l e way = none_some (sym e ∙ (found_least j l (walk_of laws way).2).holds)
