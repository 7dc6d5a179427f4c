-- A kept candidate keeps the queue and the tables together. Assumes nothing.
use Rattle.std.proofs.Common.{◌≡◌, ℕ, ◌+◌, ◌/◌, ◌%◌, ◌<◌, ◌≤◌, Bool, true, false, cond, eqb, ltb, ◌≢◌, List, length, get_or, Some, None, Option, sym, refl, ap, ◌∙◌, subst, ⊎_elim, arith, is_some, unwrap_or}
use lib.Arith.{digits_lt, digits_div, digits_mod}
use Rattle.std.proofs.lemmas.List.{length-set, get_or-set_same, get_or-set_other}
use Rattle.std.proofs.lemmas.Bool.{cases_eq, cond-true, cond-false, lt-ltb}
use Rattle.network.specs.Costs.{Laws}
use Rattle.queue.specs.Waits.{lowered, put_in}
use Rattle.labelling.specs.declared.kinds.Back.{Back}
use Rattle.labelling.specs.declared.kinds.Place.{Place}
use Rattle.labelling.specs.declared.kinds.Size.{Size}
use Rattle.labelling.specs.Tables.{Rule, sum_of, Tables, codes, code_of, label_cost, reached_at, label_at, turn_at, key_at, no_way, Ready}
use Rattle.labelling.specs.Offers.{improves, written, keyed, offered}

pub code_within : (s : Size) (v i : ℕ) → v < s.junctions → i < s.sets → code_of s v i < codes s
code_within s v i p q = digits_lt p q

-- the key of a label at the code c, settled in the turn n
abbrev pub key_by : {K : Type 0} → Rule K → ℕ → ℕ → Option K → Option K
key_by r c n l =
    cond (cond (ltb c (codes r.size)) (cond (eqb n 0) (is_some l) false) false) (sum_of r (unwrap_or l r.kind.zero) (r.bound (c / r.size.sets) (c % r.size.sets))) None

pub key_same : {K : Type 0} (r : Rule K) (t t' : Tables K) (c : ℕ) → turn_at t c ≡ turn_at t' c → label_at t c ≡ label_at t' c → key_at r t c ≡ key_at r t' c
key_same r t t' c p q = ap (λ n. key_by r c n (label_at t c)) p ∙ ap (λ l. key_by r c (turn_at t' c) l) q

module _ {K : Type 0} (r : Rule K) (t : Tables K) (c : ℕ) (k : K) (b : Back) where
  pub key_other : (d : ℕ) → d ≢ c → key_at r (written t c k b) d ≡ key_at r t d
  key_other d ne =
      key_same r (written t c k b) t d (ap (λ w. w.turn) (get_or-set_other t.ways c d _ no_way ne)) (get_or-set_other t.labels c d _ _ ne)

  pub key_here : c < codes r.size → c < length t.labels → c < length t.ways → key_at r (written t c k b) c ≡ sum_of r k (r.bound (c / r.size.sets) (c % r.size.sets))
  key_here in_codes in-labels in_ways =
      ap (λ w. key_by r c w.turn (label_at (written t c k b) c)) (get_or-set_same t.ways c _ no_way in_ways)
      ∙ ap (λ l. key_by r c 0 l) (get_or-set_same t.labels c _ _ in-labels)
      ∙ ap (λ y. cond (cond y true false) (sum_of r k (r.bound (c / r.size.sets) (c % r.size.sets))) None) (lt-ltb c (codes r.size) in_codes)

some_of : {K : Type 0} (y : Bool) (a b : K) → cond y (Some a) None ≡ Some b → a ≡ b
some_of true a b e = cc
some_of false a b e = absurd (let z : ◌≡◌ {A = ℕ} 0 1 = cc in omega arith)

-- what waits is lowered, where the candidate is below what was paid
low : {K : Type 0} (below : K → K → Bool) (key j k l : K) (within fresh reached fits : Bool) → below key j ≡ below k l → cond fresh (cond reached (below k l) true) false ≡ true → lowered below (cond (cond within (cond fresh reached false) false) (cond fits (Some j) None) None) key ≡ Some key
low below key j k l false fresh reached fits s h = refl
low below key j k l true false reached fits s h = refl
low below key j k l true true false fits s h = refl
low below key j k l true true true false s h = refl
low below key j k l true true true true s h = ap (λ y. cond y (Some key) (Some j)) (s ∙ h)

module _ {K : Type 0} (r : Rule K) (laws : Laws r.kind) (t : Tables K) (c : ℕ) (k : K) where
  pub falls : (key : K) → sum_of r k (r.bound (c / r.size.sets) (c % r.size.sets)) ≡ Some key → improves r t c k ≡ true → lowered r.kind.below (key_at r t c) key ≡ Some key
  falls key e h =
      let est = r.bound (c / r.size.sets) (c % r.size.sets) in
      let l = label_cost r t c in
      let is : r.kind.plus k est ≡ key = some_of (r.fits (r.kind.bulk k + r.kind.bulk est)) (r.kind.plus k est) key e in
      low r.kind.below key (r.kind.plus l est) k l (ltb c (codes r.size)) (eqb (turn_at t c) 0) (reached_at t c) (r.fits (r.kind.bulk l + r.kind.bulk est)) (ap (λ x. r.kind.below x (r.kind.plus l est)) (sym is) ∙ laws.shift k l est) h

  pub written_ready : (ks : List (Option K)) (b : Back) (key : K) → c < codes r.size → sum_of r k (r.bound (c / r.size.sets) (c % r.size.sets)) ≡ Some key → improves r t c k ≡ true → Ready r t ks → Ready r (written t c k b) (put_in r.kind.below ks c key)
  written_ready ks b key within e h ready = record {
    labels_long = subst (λ n. codes r.size ≤ n) (sym (length-set t.labels c _)) ready.labels_long;
    ways_long = subst (λ n. codes r.size ≤ n) (sym (length-set t.ways c _)) ready.ways_long;
    waits_long = subst (λ n. codes r.size ≤ n) (sym (length-set ks c _)) ready.waits_long;
    matches = λ d.
        ⊎_elim
        (λ same. subst (λ i. get_or (put_in r.kind.below ks c key) i None ≡ key_at r (written t c k b) i) (sym same)
        (get_or-set_same ks c _ None (omega (arith, ready.waits_long))
        ∙ ap (λ o. lowered r.kind.below o key) (ready.matches c)
        ∙ falls key e h
        ∙ sym e
        ∙ sym (key_here r t c k b within (omega (arith, ready.labels_long)) (omega (arith, ready.ways_long)))))
        (λ ne. get_or-set_other ks c d _ None ne ∙ ready.matches d ∙ sym (key_other r t c k b d ne))
        (cases_eq d c);
  }

-- the sum at a code is that at its junction and set
pub sum_at_code : {K : Type 0} (r : Rule K) (v i : ℕ) (k : K) → i < r.size.sets → sum_of r k (r.bound (code_of r.size v i / r.size.sets) (code_of r.size v i % r.size.sets)) ≡ sum_of r k (r.bound v i)
sum_at_code r v i k q =
    ap (λ x. sum_of r k (r.bound x (code_of r.size v i % r.size.sets))) (digits_div v q)
    ∙ ap (λ x. sum_of r k (r.bound v x)) (digits_mod v q)

-- an offer whose key has a sum, by what its steps left
module _ {K : Type 0} (r : Rule K) (laws : Laws r.kind) (t : Tables K) (p : Place K) (b : Back) (code : ℕ) (here : code ≡ code_of r.size p.v p.set) where
  pub offer_within : p.v < r.size.junctions → p.set < r.size.sets → code < codes r.size
  offer_within v i = subst (λ n. n < codes r.size) (sym here) (code_within r.size p.v p.set v i)

  left_keyed : (c : ℕ) (k : K) (o : Option K) → improves r t c k ≡ false → keyed r t c k b o ≡ t
  left_keyed c k None e = refl
  left_keyed c k (Some key) e = cond-false _ _ _ e

  pub offer_left : false ≡ improves r t code p.cost → t ≡ offered r t p b
  offer_left h = sym (left_keyed _ _ _ (ap (λ n. improves r t n p.cost) (sym here) ∙ sym h))

  module _ (est key : K) (is-est : est ≡ r.bound p.v p.set) (is_key : Some key ≡ sum_of r p.cost est) where
    is_sum : sum_of r p.cost (r.bound p.v p.set) ≡ Some key
    is_sum = sym (is_key ∙ ap (sum_of r p.cost) is-est)

    offered_some : offered r t p b ≡ cond (improves r t code p.cost) (written t code p.cost b) t
    offered_some =
        ap (keyed r t (code_of r.size p.v p.set) p.cost b) is_sum
        ∙ ap (λ n. cond (improves r t n p.cost) (written t n p.cost b) t) (sym here)

    module _ (h : true ≡ improves r t code p.cost) where
      pub offer_kept : written t code p.cost b ≡ offered r t p b
      offer_kept = sym (offered_some ∙ cond-true _ _ _ (sym h))

      pub offer_ready : (ks ks' : List (Option K)) → p.v < r.size.junctions → p.set < r.size.sets → ks' ≡ put_in r.kind.below ks code key → Ready r t ks → Ready r (written t code p.cost b) ks'
      offer_ready ks ks' v i is-ks ready =
          let at_code = ap (λ n. sum_of r p.cost (r.bound (n / r.size.sets) (n % r.size.sets))) here ∙ sum_at_code r p.v p.set p.cost i ∙ is_sum in
          let done = written_ready r laws t code p.cost ks b key (offer_within v i) at_code (sym h) ready in
          subst (Ready r (written t code p.cost b)) (sym is-ks) done
