-- A look through all places keeps the first least key. Assumes nothing.
use Rattle.std.proofs.Common.{◌≡◌, ℕ, ◌+◌, ◌<◌, Bool, true, false, cond, List, length, get_or, Some, None, Option, sym, refl, ap, ◌∙◌, subst, ⊎_elim, arith}
use Rattle.std.proofs.lemmas.List.{get_or_past}
use Rattle.std.proofs.lemmas.Bool.{cases_Bool, both_ways, cases_lt, cases_order}
use Rattle.network.specs.Costs.{Kind, Laws}
use Rattle.network.proofs.Order.{le_trans, weaken}
use Rattle.queue.specs.Waits.{FirstLeast, Least, better}

pub none≢some : {K : Type 0} {k : K} {G : Type 0} → None ≡ Some k → G
none≢some e = absurd (let z : ◌≡◌ {A = ℕ} 0 1 = cc in omega arith)

-- a key waits at a code only
pub some_within : {K : Type 0} (ks : List (Option K)) (c : ℕ) (k : K) → get_or ks c None ≡ Some k → c < length ks
some_within ks c k e = ⊎_elim (λ lt. lt) (λ ge. none≢some (sym (get_or_past ks c None ge) ∙ e)) (cases_lt c (length ks))

pub record FirstTo {K : Type 0} (below : K → K → Bool) (ks : List (Option K)) (n : ℕ) (k : K) (c : ℕ) : Type 0 where
  pub within : c < n
  pub waits : get_or ks c None ≡ Some k
  pub none_below : (d : ℕ) (j : K) → d < n → get_or ks d None ≡ Some j → below j k ≡ false
  pub first : (d : ℕ) (j : K) → d < c → get_or ks d None ≡ Some j → below k j ≡ true

-- the first least of the first n places
abbrev pub LeastTo : {K : Type 0} → (K → K → Bool) → List (Option K) → ℕ → Option (K × ℕ) → Type 0
LeastTo below ks n None = (d : ℕ) → d < n → get_or ks d None ≡ None
LeastTo below ks n (Some p) = FirstTo below ks n p.0 p.1

-- nothing waits at n
pub least_to_skip : {K : Type 0} (below : K → K → Bool) (ks : List (Option K)) (n : ℕ) (r : Option (K × ℕ)) → get_or ks n None ≡ None → LeastTo below ks n r → LeastTo below ks (n + 1) r
least_to_skip below ks n None e h = λ d lt. ⊎_elim (λ l. h d l) (λ ge. let q : d ≡ n = omega arith in ap (λ i. get_or ks i None) q ∙ e) (cases_lt d n)
least_to_skip below ks n (Some p) e h = record {
  within = let w = h.within in omega arith;
  waits = h.waits;
  none_below = λ d j lt f. ⊎_elim (λ l. h.none_below d j l f) (λ ge. let q : d ≡ n = omega arith in none≢some (sym (ap (λ i. get_or ks i None) q ∙ e) ∙ f)) (cases_lt d n);
  first = h.first;
}

module _ {K : Type 0} {kind : Kind K} (laws : Laws kind) where
  abbrev below : K → K → Bool
  below = kind.below

  -- not below one that is not below
  not_below : (a b c : K) → below a b ≡ true → below c b ≡ false → below c a ≡ false
  not_below a b c ab cb = le_trans laws a b c (weaken laws a b ab) cb

  below_rest : (a b c : K) → below a b ≡ true → below c b ≡ false → below a c ≡ true
  below_rest a b c ab cb =
      ⊎_elim (λ t. laws.trans a b c ab t) (λ f. ap (below a) (laws.equal c b cb f) ∙ ab) (cases_Bool (below b c))

  same_key : (ks : List (Option K)) (d n : ℕ) (j k : K) → d ≡ n → get_or ks n None ≡ Some k → get_or ks d None ≡ Some j → j ≡ k
  same_key ks d n j k q e f = let e' = ap (λ i. get_or ks i None) q in cc

  pub least_to_more : (ks : List (Option K)) (n : ℕ) (k : K) (r : Option (K × ℕ)) → get_or ks n None ≡ Some k → LeastTo below ks n r → LeastTo below ks (n + 1) (better below r k n)
  least_to_more ks n k None e h = record {
    within = omega arith;
    waits = e;
    none_below = λ d j lt f. ⊎_elim (λ l. none≢some (sym (h d l) ∙ f)) (λ ge. ap (λ x. below x k) (same_key ks d n j k (omega arith) e f) ∙ laws.irrefl k) (cases_lt d n);
    first = λ d j lt f. none≢some (sym (h d lt) ∙ f);
  }
  least_to_more ks n k (Some p) e h =
      ⊎_elim
      (λ t. subst (LeastTo below ks (n + 1)) (sym (ap (λ b. cond b (Some (k, n)) (Some p)) t)) (record {
        within = omega arith;
        waits = e;
        none_below = λ d j lt f. ⊎_elim (λ l. not_below k p.0 j t (h.none_below d j l f)) (λ ge. ap (λ x. below x k) (same_key ks d n j k (omega arith) e f) ∙ laws.irrefl k) (cases_lt d n);
        first = λ d j lt f. below_rest k p.0 j t (h.none_below d j lt f);
      }))
      (λ t. subst (LeastTo below ks (n + 1)) (sym (ap (λ b. cond b (Some (k, n)) (Some p)) t)) (record {
        within = let w = h.within in omega arith;
        waits = h.waits;
        none_below = λ d j lt f. ⊎_elim (λ l. h.none_below d j l f) (λ ge. ap (λ x. below x p.0) (same_key ks d n j k (omega arith) e f) ∙ t) (cases_lt d n);
        first = h.first;
      }))
      (cases_Bool (below k p.0))

-- one answer only
pub first_unique : {K : Type 0} (below : K → K → Bool) (ks : List (Option K)) (k k' : K) (c c' : ℕ) → FirstLeast below ks k c → FirstLeast below ks k' c' → c ≡ c'
first_unique below ks k k' c c' p q =
    ⊎_elim (λ e. e)
    (⊎_elim
    (λ lt. absurd (both_ways (below k' k) (p.none_below c' k' q.waits) (q.first c k lt p.waits)))
    (λ gt. absurd (both_ways (below k k') (q.none_below c k p.waits) (p.first c' k' gt q.waits))))
    (cases_order c c')

pub least_unique : {K : Type 0} (below : K → K → Bool) (ks : List (Option K)) (r r' : Option (K × ℕ)) → Least below ks r → Least below ks r' → r ≡ r'
least_unique below ks None None p q = refl
least_unique below ks None (Some b) p q = none≢some (sym (p b.1) ∙ q.waits)
least_unique below ks (Some a) None p q = none≢some (sym (q a.1) ∙ p.waits)
least_unique below ks (Some a) (Some b) p q =
    let c : a.1 ≡ b.1 = first_unique below ks a.0 b.0 a.1 b.1 p q in
    let e = ap (λ i. get_or ks i None) c in
    let s : Some a.0 ≡ Some b.0 = sym p.waits ∙ e ∙ q.waits in
    let k : a.0 ≡ b.0 = cc in
    λ i. Some (k i, c i)
