-- The farthest outlet bounds what is left to pay. Assumes nothing.
use Rattle.std.proofs.Common.{◌≡◌, ℕ, zero, suc, ◌+◌, ◌-◌, ◌*◌, ◌^◌, ◌<◌, ◌≤◌, Bool, true, false, ltb, ◌⊎◌, List, length, get_or, Some, None, Option, unwrap_or, sym, refl, ap, ◌∙◌, subst, inl, inr, arith}
use Rattle.std.proofs.lemmas.Bool.{cases_eq, cases_Bool, both_ways, ltb-true, lt-ltb, cond-true, cond_both}
use Rattle.network.specs.Costs.{Kind, Laws, greater}
use Rattle.network.specs.Layouts.{Layout, OpenSet, Joins, cost_of}
use Rattle.network.specs.Bounds.{Missing, Lawful}
use Rattle.network.specs.declared.run.Run.{Run}
use Rattle.farthest.specs.Trials.{open_runs, table}
use Rattle.farthest.specs.Distances.{Distances, Measured, in_set, farthest, far_bound}
use Rattle.farthest.specs.Memories.{in_row}
use Rattle.farthest.proofs.Graph.{Way, stay, go, Within, Part, total, stand}
use Rattle.farthest.proofs.Masks.{all_in, in_has, has_in}
use Rattle.farthest.proofs.Numbered.{same_cost, way_by, path_by, listed, runs_of}
use Rattle.network.proofs.Order.{le_eq, le_trans, mono_l, mono_r, le_plus_l, greater_l, greater_r, greater_le}
use Rattle.farthest.proofs.Rounds.{Holds, some_same, Known}
use Rattle.farthest.proofs.Walks.{joins_back, part_within, part_length, part_total, wider, on, shorten, walk_of, way_of}
use Rattle.farthest.proofs.Columns.{Facts, length_open, part_bulk, found_walk, found_least, found_below, found_cheapest, found_none}

module _ {C : Type 0} where
  way_on : {S : List (Run C)} {u v w : ℕ} → Way S u v → Way S v w → Way S u w
  way_on stay q = q
  way_on (go j p) q = go j (way_on p q)

  way_back : {S : List (Run C)} {u v : ℕ} → Way S u v → Way S v u
  way_back stay = stay
  way_back (go j p) = way_on (way_back p) (go (joins_back j) stay)

module _ {K : Type 0} {kind : Kind K} (laws : Laws kind) where
  infix 40 ◌⊑◌
  abbrev ◌⊑◌ : K → K → Type 0
  a ⊑ b = kind.below b a ≡ false

  module _ (ds : Distances K) (v I : ℕ) where
    -- a distance, or zero
    abbrev at : ℕ → K
    at j = unwrap_or (ds v j) kind.zero

    far_le : (n : ℕ) (x : K) → ((j : ℕ) → j < n → in_set I j ≡ false → at j ⊑ x) → farthest kind ds v I n ⊑ x
    far_le zero x f = laws.least x
    far_le (suc n) x f = look (far_le n x (λ j l m. f j (omega arith) m))
      where
        look : farthest kind ds v I n ⊑ x → farthest kind ds v I (suc n) ⊑ x
        look h = cond_both (in_set I n) _ _ (λ y. y ⊑ x) (λ e. h) (λ e. greater_le laws _ _ x h (f n (omega arith) e))

    far_ge : (n j : ℕ) → j < n → in_set I j ≡ false → at j ⊑ farthest kind ds v I n
    far_ge zero j l m = absurd (omega arith)
    far_ge (suc n) j l m = look (cases_eq j n) (far_ge n j)
      where
        look : (j ≡ n) ⊎ (j ≡ n → ⊥) → (j < n → in_set I j ≡ false → at j ⊑ farthest kind ds v I n) → at j ⊑ farthest kind ds v I (suc n)
        look (inl q) ih =
            cond_both (in_set I n) _ _ (λ y. at j ⊑ y) (λ e. absurd (both_ways (in_set I j) m (ap (in_set I) q ∙ e)))
            (λ e. subst (λ i. at j ⊑ greater kind (farthest kind ds v I n) (at i)) q (greater_r laws _ (at j)))
        look (inr q) ih = cond_both (in_set I n) _ _ (λ y. at j ⊑ y) (λ e. ih (omega arith) m) (λ e. le_trans laws _ _ _ (ih (omega arith) m) (greater_l laws _ _))

  module _ (l : Layout K) (facts : Facts kind l) where
    abbrev rs : List (Run K)
    rs = l.runs

    abbrev os : List Bool
    os = l.«open»

    abbrev ps : List ℕ
    ps = l.outlets

    abbrev k : ℕ
    k = length l.outlets

    abbrev n : ℕ
    n = l.junctions

    abbrev found : List (Option K)
    found = table kind n rs os k ps

    abbrev known : Distances K
    known = in_row found

    -- each place holds a distance
    pub found_measured : Measured kind l known
    found_measured = record {
      some = λ v j d few h.
          let x = found_cheapest laws l facts v j d few h in
          let y = listed l x.part in
          record {
            set = y.set;
            is_open = y.climbs;
            joins = path_by l y.numbers x.joins;
            costs = same_cost l kind y.numbers ∙ x.costs;
            least = λ S is_open path. let z = runs_of l is_open in
                le_trans laws _ _ _ (x.least z.runs z.part (way_by l z.numbers path)) (le_eq laws (sym (same_cost l kind z.numbers)));
          };
      none = λ v j few e S is_open path. let z = runs_of l is_open in
          found_none laws l facts v j few e (way_of laws (wider laws (part_within z.part) (walk_of laws (way_by l z.numbers path)).2));
    }

    at_known : (v j : ℕ) (d : K) → Holds found (v * 12 + j) d → at known v 0 j ≡ d
    at_known v j d h = ap (λ o. unwrap_or o kind.zero) h

    -- one outlet of the law
    one_outlet : (v w I J : ℕ) (S : List (Run K)) → Part S (open_runs rs os) → Way S v w
        → ((j : ℕ) → j < k → in_set J j ≡ true → in_set I j ≡ false → Way S v (get_or ps j 0))
        → (j : ℕ) → j < k → in_set I j ≡ false → at known v I j ⊑ kind.plus (farthest kind known w J k) (total kind S)
    one_outlet v w I J S part way joins j few m = look (get_or found (v * 12 + j) None) refl
      where
        look : (o : Option K) → get_or found (v * 12 + j) None ≡ o → at known v I j ⊑ kind.plus (farthest kind known w J k) (total kind S)
        look None e = le_trans laws _ _ _ (le_eq laws (ap (λ o. unwrap_or o kind.zero) e)) (laws.least _)
        look (Some d) e = le_trans laws _ _ _ (le_eq laws (at_known v j d e)) (in_j (cases_Bool (in_set J j)))
          where
            least : {c : K} → Known laws found (v * 12 + j) c → d ⊑ c
            least x = le_trans laws _ _ _ (le_eq laws (some_same (sym e ∙ x.holds))) x.most

            in_j : (in_set J j ≡ true) ⊎ (in_set J j ≡ false) → d ⊑ kind.plus (farthest kind known w J k) (total kind S)
            in_j (inl h) = le_trans laws _ _ _ (least (found_below laws l facts v j few S part (joins j few h m))) (le_plus_l laws _ _)
            in_j (inr h) =
                let p = found_walk laws l facts v j d few e in
                let t = shorten laws (walk_of laws way).2 in
                let into : Within t.set (open_runs rs os) = λ x y z i. part_within part x y z (part_within t.part x y z i) in
                let from-w = way_on (way_back (way_of laws (wider laws into t.walk))) (way_of laws p.1) in
                let w-known = found_least laws l facts j few (walk_of laws from-w).2 in
                let q = found_walk laws l facts w j w-known.cost few w-known.holds in
                let both = found_least laws l facts j few (on laws (wider laws into t.walk) q.1) in
                le_trans laws _ _ _ (least both)
                (le_trans laws _ (kind.plus w-known.cost (total kind S)) _
                (mono_r laws _ _ _ (part_total laws t.part))
                (mono_l laws _ _ _ (le_trans laws _ _ _ (le_eq laws (sym (at_known w j w-known.cost w-known.holds))) (far_ge known w J k j few h))))

    at_own : (J : ℕ) → ((j : ℕ) → 0 < j → j < k → in_set J j ≡ true) → (j : ℕ) → j < k → in_set J j ≡ false → (j ≡ 0) ⊎ (j ≡ 0 → ⊥) → at known (get_or ps 0 0) J j ⊑ kind.zero
    at_own J full j few m (inr z) = absurd (both_ways (in_set J j) m (full j (omega arith) few))
    at_own J full j few m (inl z) =
        let x = found_least laws l facts j few stand in
        subst (λ i. at known (get_or ps i 0) J j ⊑ kind.zero) z (le_trans laws _ _ _ (le_eq laws (ap (λ o. unwrap_or o kind.zero) x.holds)) x.most)

    way_inside : {S : List (Run K)} {v w : ℕ} → Within S (open_runs rs os) → v < n → Way S v w → w < n
    way_inside f h stay = h
    way_inside f h (go j p) = way_inside f (facts.ends _ _ _ (f _ _ _ j)).1 p

    found_light : (v j : ℕ) (I : ℕ) → j < k → kind.bulk (at known v I j) ≤ 2 ^ 48
    found_light v j I few = look (get_or found (v * 12 + j) None) refl
      where
        look : (o : Option K) → get_or found (v * 12 + j) None ≡ o → kind.bulk (at known v I j) ≤ 2 ^ 48
        look None e = let z = laws.bulk_zero in let q = ap (λ o. kind.bulk (unwrap_or o kind.zero)) e in omega arith
        look (Some d) e =
            let x = found_cheapest laws l facts v j d few e in
            let q = ap kind.bulk (at_known v j d e) in
            let y = ap kind.bulk x.costs in
            let h = part_bulk laws l facts x.set (part_within x.part) in
            let m = part_length x.part in
            let o = length_open rs os in
            let c = facts.laid in
            omega arith

    far_light : (v I m : ℕ) → m ≤ k → kind.bulk (farthest kind known v I m) ≤ 2 ^ 48
    far_light v I zero h = let z = laws.bulk_zero in omega arith
    far_light v I (suc m) h = look (far_light v I m (omega arith)) (found_light v m I (omega arith))
      where
        look : kind.bulk (farthest kind known v I m) ≤ 2 ^ 48 → kind.bulk (at known v I m) ≤ 2 ^ 48 → kind.bulk (farthest kind known v I (suc m)) ≤ 2 ^ 48
        look f g =
            cond_both (in_set I m) _ _ (λ y. kind.bulk y ≤ 2 ^ 48) (λ e. f)
            (λ e. cond_both (kind.below (farthest kind known v I m) (at known v I m)) _ _ (λ y. kind.bulk y ≤ 2 ^ 48) (λ t. g) (λ t. f))

    abbrev bounds : ℕ → ℕ → K
    bounds v I = far_bound kind n k known v I

    -- what holds of zero, and of the farthest where it is asked for
    either_bound : (P : K → Type 0) (v I : ℕ) → P kind.zero → (v < n → P (farthest kind known v I k)) → P (bounds v I)
    either_bound P v I z f = cond_both (ltb v n) _ _ P (λ e. cond_both (ltb I (2 ^ (k - 1))) _ _ P (λ t. f (ltb-true v n e)) (λ t. z)) (λ e. z)

    is_bound : (v I : ℕ) → v < n → I < 2 ^ (k - 1) → bounds v I ≡ farthest kind known v I k
    is_bound v I a b = cond-true (ltb v n) _ _ (lt-ltb v n a) ∙ cond-true (ltb I (2 ^ (k - 1))) _ _ (lt-ltb I (2 ^ (k - 1)) b)

    -- an outlet of J that is not in I
    missing : (I J j : ℕ) → j < k → in_set J j ≡ true → in_set I j ≡ false → Missing l I J (get_or ps j 0)
    missing I J zero few h m = absurd (both_ways false refl h)
    missing I J (suc i) few h m = record { place = i; within = omega arith; wanted = in_has J i h; lacking = λ x. both_ways (in_set I (suc i)) m (has_in I i x); is = refl }

    -- the law for one set of open runs
    along_set : (v w I J : ℕ) (S : List ℕ) → J < 2 ^ (k - 1) → OpenSet l S → Joins l S (λ u. (u ≡ v) ⊎ ((u ≡ w) ⊎ Missing l I J u))
        → bounds v I ⊑ kind.plus (bounds w J) (cost_of kind l S)
    along_set v w I J S few is_open joins =
        let z = runs_of l is_open in
        let way = way_by l z.numbers (joins v w (inl refl) (inr (inl refl))) in
        let ways : (j : ℕ) → j < k → in_set J j ≡ true → in_set I j ≡ false → Way z.runs v (get_or ps j 0) = λ j a b c. way_by l z.numbers (joins v (get_or ps j 0) (inl refl) (inr (inr (missing I J j a b c)))) in
        subst (λ c. bounds v I ⊑ kind.plus (bounds w J) c) (sym (same_cost l kind z.numbers))
        (either_bound (λ x. x ⊑ kind.plus (bounds w J) (total kind z.runs)) v I (laws.least _)
        (λ h. subst (λ y. farthest kind known v I k ⊑ kind.plus y (total kind z.runs)) (sym (is_bound w J (way_inside (part_within z.part) h way) few)) (far_le known v I k _ (one_outlet v w I J z.runs z.part way ways))))

    pub found_lawful : Lawful kind l bounds
    found_lawful = record {
      at_root = either_bound (λ x. x ≡ kind.zero) (get_or ps 0 0) (2 ^ (k - 1) - 1) refl
          (λ h. laws.equal _ _ (laws.least _) (far_le known (get_or ps 0 0) (2 ^ (k - 1) - 1) k kind.zero (λ j few m. at_own (2 ^ (k - 1) - 1) (all_in k) j few m (cases_eq j 0))));
      along = λ v w I J S _ few is_open joins. along_set v w I J S few is_open joins;
      light = λ v I. either_bound (λ x. kind.bulk x ≤ 2 ^ 48) v I (let z = laws.bulk_zero in omega arith) (λ h. far_light v I k (omega arith));
    }
