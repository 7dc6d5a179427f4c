-- What trials in rounds leave: at each place the least cost of a walk over few enough arcs. Assumes nothing.
use Rattle.std.proofs.Common.{◌≡◌, ℕ, zero, suc, ◌+◌, ◌^◌, ◌<◌, ◌≤◌, Bool, true, false, cond, leb, ◌⊎◌, List, [], ◌∷◌, length, get_or, set, Some, None, Option, sym, refl, ap, ◌∙◌, subst, inl, inr, ⊎_elim, arith}
use Rattle.std.proofs.lemmas.List.{length-set, get_or_past, get_or-set_same, get_or-set_other}
use Rattle.std.proofs.lemmas.Bool.{cases_lt, cases_eq, le-leb}
use Rattle.network.specs.Costs.{Kind, Laws}
use Rattle.farthest.specs.Trials.{Arc, sum_of, improves, offered, tried, applied, rounds}
use Rattle.network.proofs.Order.{le_trans, mono_l, weaken}

pub data Among {K : Type 0} (a : Arc K) : List (Arc K) → Type 0 where
  this : {xs : List (Arc K)} → Among a (a ∷ xs)
  next : {b : Arc K} {xs : List (Arc K)} → Among a xs → Among a (b ∷ xs)

-- d is known at the place p
abbrev pub Holds : {K : Type 0} → List (Option K) → ℕ → K → Type 0
Holds ds p d = get_or ds p None ≡ Some d

pub none_some : {K G : Type 0} {d : K} → None ≡ Some d → G
none_some e = absurd (let z : ◌≡◌ {A = ℕ} 0 1 = cc in omega arith)

pub some_same : {K : Type 0} {d e : K} → Some d ≡ Some e → d ≡ e
some_same p = cc

pub holds_within : {K : Type 0} (ds : List (Option K)) (p : ℕ) (d : K) → Holds ds p d → p < length ds
holds_within ds p d h = ⊎_elim (λ l. l) (λ g. none_some (sym (get_or_past ds p None g) ∙ h)) (cases_lt p (length ds))

module _ {K : Type 0} {kind : Kind K} (laws : Laws kind) where
  infix 40 ◌⊑◌
  abbrev ◌⊑◌ : K → K → Type 0
  a ⊑ b = kind.below b a ≡ false

  -- at p something is known that costs at most c
  pub record Known (ds : List (Option K)) (p : ℕ) (c : K) : Type 0 where
    pub cost : K
    pub holds : Holds ds p cost
    pub most : cost ⊑ c

  known : {ds : List (Option K)} {p : ℕ} {c : K} (d : K) → Holds ds p d → d ⊑ c → Known ds p c
  known d h l = record { cost = d; holds = h; most = l }

  pub known_more : {ds : List (Option K)} {p : ℕ} {c d : K} → Known ds p c → c ⊑ d → Known ds p d
  known_more k h = known k.cost k.holds (le_trans laws _ _ _ k.most h)

  -- ---- one trial

  offered_length : (ds : List (Option K)) (p : ℕ) (s : Option K) → length (offered kind ds p s) ≡ length ds
  offered_length ds p None = refl
  offered_length ds p (Some s) = look (improves kind (get_or ds p None) s)
    where
      look : (t : Bool) → length (cond t (set ds p (Some s)) ds) ≡ length ds
      look true = length-set ds p (Some s)
      look false = refl

  -- what stands at q afterwards was there, or is what was offered and improves
  offered_from : (ds : List (Option K)) (p q : ℕ) (s : Option K) (d : K) → Holds (offered kind ds p s) q d → Holds ds q d ⊎ ((q ≡ p) × (s ≡ Some d) × (improves kind (get_or ds p None) d ≡ true))
  offered_from ds p q None d h = inl h
  offered_from ds p q (Some s) d h = look (improves kind (get_or ds p None) s) refl h
    where
      look : (t : Bool) → improves kind (get_or ds p None) s ≡ t → Holds (cond t (set ds p (Some s)) ds) q d → Holds ds q d ⊎ ((q ≡ p) × (Some s ≡ Some d) × (improves kind (get_or ds p None) d ≡ true))
      look false i h = inl h
      look true i h = elim (cases_eq q p) [
        | inl e ↦ elim (cases_lt p (length ds)) [
          | inl l ↦ let same = sym (get_or-set_same ds p (Some s) None l) ∙ (ap (λ i. get_or (set ds p (Some s)) i None) (sym e) ∙ h) in inr (e, same, ap (improves kind (get_or ds p None)) (sym (some_same same)) ∙ i)
          | inr g ↦ none_some (sym (get_or_past (set ds p (Some s)) q None (let m = length-set ds p (Some s) in omega arith)) ∙ h)
        ]
        | inr n ↦ inl (sym (get_or-set_other ds p q (Some s) None n) ∙ h)
      ]

  -- what was known stays known
  offered_keeps : (ds : List (Option K)) (p q : ℕ) (s : Option K) (d : K) → Holds ds q d → Known (offered kind ds p s) q d
  offered_keeps ds p q None d h = known d h (laws.irrefl d)
  offered_keeps ds p q (Some s) d h = look (improves kind (get_or ds p None) s) refl
    where
      look : (t : Bool) → improves kind (get_or ds p None) s ≡ t → Known (cond t (set ds p (Some s)) ds) q d
      look false e = known d h (laws.irrefl d)
      look true e = elim (cases_eq q p) [
        | inl i ↦
            let at : get_or ds p None ≡ Some d = ap (λ i. get_or ds i None) (sym i) ∙ h in
            let less : kind.below s d ≡ true = ap (λ x. improves kind x s) (sym at) ∙ e in
            known s (ap (λ i. get_or (set ds p (Some s)) i None) i ∙ get_or-set_same ds p (Some s) None (holds_within ds p d at)) (weaken laws s d less)
        | inr n ↦ known d (get_or-set_other ds p q (Some s) None n ∙ h) (laws.irrefl d)
      ]

  -- what is offered is known
  offered_known : (ds : List (Option K)) (p : ℕ) (s : K) → p < length ds → Known (offered kind ds p (Some s)) p s
  offered_known ds p s l = look (get_or ds p None) refl
    where
      look : (x : Option K) → get_or ds p None ≡ x → Known (cond (improves kind (get_or ds p None) s) (set ds p (Some s)) ds) p s
      look None e = rw e (known s (get_or-set_same ds p (Some s) None l) (laws.irrefl s))
      look (Some d) e = rw e (at (kind.below s d) refl)
        where
          at : (t : Bool) → kind.below s d ≡ t → Known (cond t (set ds p (Some s)) ds) p s
          at true h = known s (get_or-set_same ds p (Some s) None l) (laws.irrefl s)
          at false h = known d e h

  sum_from : (o : Option K) (c d : K) → sum_of kind o c ≡ Some d → (b : K) × (o ≡ Some b) × (d ≡ kind.plus b c)
  sum_from None c d e = none_some e
  sum_from (Some b) c d e = look (leb (kind.bulk b + kind.bulk c) (2 ^ 50)) e
    where
      look : (t : Bool) → cond t (Some (kind.plus b c)) None ≡ Some d → (x : K) × (Some b ≡ Some x) × (d ≡ kind.plus x c)
      look true e = (b, refl, sym (some_same e))
      look false e = none_some e

  -- what stands at q after a trial was there, or comes over the arc and improves
  pub tried_from : (a : Arc K) (ds : List (Option K)) (q : ℕ) (d : K) → Holds (tried kind a ds) q d
      → Holds ds q d ⊎ ((q ≡ a.to) × ((b : K) × Holds ds a.from b × (d ≡ kind.plus b a.cost)) × (improves kind (get_or ds a.to None) d ≡ true))
  tried_from a ds q d h = elim (offered_from ds a.to q _ d h) [
    | inl x ↦ inl x
    | inr x ↦ inr (x.0, sum_from (get_or ds a.from None) a.cost d x.1, x.2)
  ]

  pub tried_keeps : (a : Arc K) (ds : List (Option K)) (q : ℕ) (d : K) → Holds ds q d → Known (tried kind a ds) q d
  tried_keeps a ds q d h = offered_keeps ds a.to q _ d h

  tried_known : (a : Arc K) (ds : List (Option K)) (d : K) → Holds ds a.from d → kind.bulk d + kind.bulk a.cost ≤ 2 ^ 50 → a.to < length ds → Known (tried kind a ds) a.to (kind.plus d a.cost)
  tried_known a ds d h le l =
      let e : sum_of kind (get_or ds a.from None) a.cost ≡ Some (kind.plus d a.cost) =
      ap (λ o. sum_of kind o a.cost) h ∙ ap (λ t. cond t (Some (kind.plus d a.cost)) None) (le-leb _ _ le) in
      subst (λ o. Known (offered kind ds a.to o) a.to (kind.plus d a.cost)) (sym e) (offered_known ds a.to (kind.plus d a.cost) l)

  -- ---- one trial after the other

  -- nothing known has a kind .bulk above B
  abbrev pub Small : ℕ → List (Option K) → Type 0
  Small B ds = (p : ℕ) (d : K) → Holds ds p d → kind.bulk d ≤ B

  -- the arcs lead to n places, cost no more than m in kind.bulk, and each trial keeps `Inv`, under which no sum is too bulky
  pub record Fit (n B m : ℕ) (Inv : List (Option K) → Type 0) (xs : List (Arc K)) : Type 0 where
    pub to_place : (a : Arc K) → Among a xs → a.to < n
    pub bulk_most : (a : Arc K) → Among a xs → kind.bulk a.cost ≤ m
    pub keeps : (a : Arc K) → Among a xs → (ds : List (Option K)) → Inv ds → Inv (tried kind a ds)
    pub small : (ds : List (Option K)) → Inv ds → Small B ds
    pub exact : B + m ≤ 2 ^ 50

  fit_rest : {n B m : ℕ} {Inv : List (Option K) → Type 0} {a : Arc K} {xs : List (Arc K)} → Fit n B m Inv (a ∷ xs) → Fit n B m Inv xs
  fit_rest f = record { to_place = λ b i. f.to_place b (next i); bulk_most = λ b i. f.bulk_most b (next i); keeps = λ b i. f.keeps b (next i); small = f.small; exact = f.exact }

  applied_length : (xs : List (Arc K)) (ds : List (Option K)) → length (applied kind xs ds) ≡ length ds
  applied_length [] ds = refl
  applied_length (a ∷ xs) ds = applied_length xs (tried kind a ds) ∙ offered_length ds a.to _

  applied_keeps : (xs : List (Arc K)) (ds : List (Option K)) (p : ℕ) (d : K) → Holds ds p d → Known (applied kind xs ds) p d
  applied_keeps [] ds p d h = known d h (laws.irrefl d)
  applied_keeps (a ∷ xs) ds p d h = let k = tried_keeps a ds p d h in known_more (applied_keeps xs (tried kind a ds) p k.cost k.holds) k.most

  -- what is carried over each arc holds of all that is known
  applied_sound : (P : ℕ → K → Type 0) (xs : List (Arc K)) → ((a : Arc K) → Among a xs → (d : K) → P a.from d → P a.to (kind.plus d a.cost))
      → (ds : List (Option K)) → ((p : ℕ) (d : K) → Holds ds p d → P p d) → (p : ℕ) (d : K) → Holds (applied kind xs ds) p d → P p d
  applied_sound P [] f ds g p d h = g p d h
  applied_sound P (a ∷ xs) f ds g p d h =
      applied_sound P xs (λ b i. f b (next i)) (tried kind a ds) (λ q e x. elim (tried_from a ds q e x) [
        | inl y ↦ g q e y
        | inr y ↦ subst (λ i. P i e) (sym y.0) (subst (P a.to) (sym y.1.2) (f a this y.1.0 (g a.from y.1.0 y.1.1)))
      ]) p d h

  module _ (B m : ℕ) (Inv : List (Option K) → Type 0) where
    applied_inv : (n : ℕ) (xs : List (Arc K)) → Fit n B m Inv xs → (ds : List (Option K)) → Inv ds → Inv (applied kind xs ds)
    applied_inv n [] f ds i = i
    applied_inv n (a ∷ xs) f ds i = applied_inv n xs (fit_rest f) (tried kind a ds) (f.keeps a this ds i)

    applied_known : {a : Arc K} {xs : List (Arc K)} → Among a xs → (ds : List (Option K)) → Fit (length ds) B m Inv xs → Inv ds
        → (d : K) → Holds ds a.from d → Known (applied kind xs ds) a.to (kind.plus d a.cost)
    applied_known {a} (this {xs = xs}) ds g i d h =
        let k = tried_known a ds d h (let y = g.small ds i a.from d h in let z = g.bulk_most a this in let e = g.exact in omega arith) (g.to_place a this) in
        known_more (applied_keeps xs (tried kind a ds) a.to k.cost k.holds) k.most
    applied_known {a} (next {b = b} {xs = xs} o) ds g i d h =
        let k = tried_keeps b ds a.from d h in
        let g' = subst (λ n. Fit n B m Inv xs) (sym (offered_length ds b.to (sum_of kind (get_or ds b.from None) b.cost))) (fit_rest g) in
        known_more (applied_known o (tried kind b ds) g' (g.keeps b this ds i) k.cost k.holds) (mono_l laws _ _ _ k.most)

  -- ---- rounds

  module _ (xs : List (Arc K)) where
    pub rounds_length : (r : ℕ) (ds : List (Option K)) → length (rounds kind r xs ds) ≡ length ds
    rounds_length zero ds = refl
    rounds_length (suc r) ds = applied_length xs (rounds kind r xs ds) ∙ rounds_length r ds

    pub rounds_sound : (P : ℕ → K → Type 0) → ((a : Arc K) → Among a xs → (d : K) → P a.from d → P a.to (kind.plus d a.cost))
        → (ds : List (Option K)) → ((p : ℕ) (d : K) → Holds ds p d → P p d) → (r : ℕ) (p : ℕ) (d : K) → Holds (rounds kind r xs ds) p d → P p d
    rounds_sound P f ds g zero p d h = g p d h
    rounds_sound P f ds g (suc r) p d h = applied_sound P xs f (rounds kind r xs ds) (rounds_sound P f ds g r) p d h

    -- a walk over n arcs to a place where `(kind.zero)` is known at the start
    pub data Path (ds : List (Option K)) : ℕ → ℕ → K → Type 0 where
      done : {p : ℕ} → Holds ds p kind.zero → Path ds p 0 kind.zero
      over : {a : Arc K} {n : ℕ} {c : K} → Among a xs → Path ds a.from n c → Path ds a.to (suc n) (kind.plus c a.cost)

    module _ (B m : ℕ) (Inv : List (Option K) → Type 0) (ds : List (Option K)) (fits : Fit (length ds) B m Inv xs) (at_start : Inv ds) where
      rounds_inv : (r : ℕ) → Inv (rounds kind r xs ds)
      rounds_inv zero = at_start
      rounds_inv (suc r) = applied_inv B m Inv (length ds) xs fits (rounds kind r xs ds) (rounds_inv r)

      -- after r rounds no walk over at most r arcs is cheaper
      pub rounds_known : (r : ℕ) {p n : ℕ} {c : K} → Path ds p n c → n ≤ r → Known (rounds kind r xs ds) p c
      rounds_known zero (done h) l = known kind.zero h (laws.irrefl kind.zero)
      rounds_known zero (over i q) l = absurd (omega arith)
      rounds_known (suc r) {p} (done h) l =
          let k = rounds_known r (done h) (omega arith) in
          known_more (applied_keeps xs (rounds kind r xs ds) p k.cost k.holds) k.most
      rounds_known (suc r) (over {a = a} i q) l =
          let k = rounds_known r q (omega arith) in
          let f = subst (λ n. Fit n B m Inv xs) (sym (rounds_length r ds)) fits in
          known_more (applied_known B m Inv i (rounds kind r xs ds) f (rounds_inv r) k.cost k.holds) (mono_l laws _ _ _ k.most)
