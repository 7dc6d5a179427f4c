-- What a candidate and a settled code change in the tables, and what they leave. Assumes nothing.
use Rattle.std.proofs.Common.{◌≡◌, ℕ, ◌/◌, ◌%◌, ◌<◌, Bool, true, false, cond, eqb, ◌≢◌, length, get_or, Some, None, Option, sym, refl, ap, ◌∙◌, subst, ⊎_elim}
use lib.Arith.{digits_div, digits_mod}
use Rattle.std.proofs.lemmas.List.{length-set, get_or-set_same, get_or-set_other}
use Rattle.std.proofs.lemmas.Bool.{cases_Bool, cases_eq, cond-true, cond-false, eqb-true}
use Rattle.labelling.specs.declared.kinds.Way.{Way}
use Rattle.labelling.specs.declared.kinds.Back.{Back}
use Rattle.labelling.specs.declared.kinds.Place.{Place}
use Rattle.labelling.specs.declared.kinds.Size.{Size}
use Rattle.labelling.specs.Tables.{Rule, sum_of, Tables, code_of, label_cost, reached_at, label_at, turn_at, no_way}
use Rattle.labelling.specs.Offers.{improves, written, keyed, offered}
use Rattle.labelling.specs.Turns.{settled}

-- a code belongs to one junction and one set
pub code_same : (s : Size) (v w i j : ℕ) → i < s.sets → j < s.sets → code_of s v i ≡ code_of s w j → (v ≡ w) × (i ≡ j)
code_same s v w i j p q e =
    (sym (digits_div v p) ∙ ap (λ n. n / s.sets) e ∙ digits_div w q, sym (digits_mod v p) ∙ ap (λ n. n % s.sets) e ∙ digits_mod w q)

-- the way back at a code
abbrev pub back_at : {K : Type 0} → Tables K → ℕ → Back
back_at t c = (get_or t.ways c no_way).back

module _ {K : Type 0} (r : Rule K) (t : Tables K) (c : ℕ) (k : K) (b : Back) where
  pub turn_other : (d : ℕ) → d ≢ c → turn_at (written t c k b) d ≡ turn_at t d
  turn_other d ne = ap (λ (w : Way). w.turn) (get_or-set_other t.ways c d _ no_way ne)

  pub back_other : (d : ℕ) → d ≢ c → back_at (written t c k b) d ≡ back_at t d
  back_other d ne = ap (λ (w : Way). w.back) (get_or-set_other t.ways c d _ no_way ne)

  pub label_other : (d : ℕ) → d ≢ c → label_at (written t c k b) d ≡ label_at t d
  label_other d ne = get_or-set_other t.labels c d _ _ ne

  pub turn_here : c < length t.ways → turn_at (written t c k b) c ≡ 0
  turn_here lt = ap (λ (w : Way). w.turn) (get_or-set_same t.ways c (record { turn = 0; back = b }) no_way lt)

  pub back_here : c < length t.ways → back_at (written t c k b) c ≡ b
  back_here lt = ap (λ (w : Way). w.back) (get_or-set_same t.ways c (record { turn = 0; back = b }) no_way lt)

  pub label_here : c < length t.labels → label_at (written t c k b) c ≡ Some k
  label_here lt = get_or-set_same t.labels c (Some k) None lt

-- the rows are as long as they were, turns are as they were, and so are the labels that are settled
pub record Grown {K : Type 0} (r : Rule K) (t t' : Tables K) : Type 0 where
  pub turns : (d : ℕ) → turn_at t' d ≡ turn_at t d
  pub labels : (d : ℕ) → (turn_at t d ≡ 0 → ⊥) → label_at t' d ≡ label_at t d
  pub labels_long : length t'.labels ≡ length t.labels
  pub ways_long : length t'.ways ≡ length t.ways

pub grown_refl : {K : Type 0} (r : Rule K) (t : Tables K) → Grown r t t
grown_refl r t = record { turns = λ d. refl; labels = λ d s. refl; labels_long = refl; ways_long = refl }

pub grown_on : {K : Type 0} (r : Rule K) (t t' t'' : Tables K) → Grown r t t' → Grown r t' t'' → Grown r t t''
grown_on r t t' t'' g h = record {
  turns = λ d. h.turns d ∙ g.turns d;
  labels = λ d s. h.labels d (λ z. s (sym (g.turns d) ∙ z)) ∙ g.labels d s;
  labels_long = h.labels_long ∙ g.labels_long;
  ways_long = h.ways_long ∙ g.ways_long;
}

pub written_grown : {K : Type 0} (r : Rule K) (t : Tables K) (c : ℕ) (k : K) (b : Back) → c < length t.ways → turn_at t c ≡ 0 → Grown r t (written t c k b)
written_grown r t c k b lt fresh = record {
  turns = λ d. ⊎_elim (λ e. ap (turn_at (written t c k b)) e ∙ turn_here r t c k b lt ∙ sym fresh ∙ sym (ap (turn_at t) e)) (λ ne. turn_other r t c k b d ne) (cases_eq d c);
  labels = λ d s. label_other r t c k b d (λ e. s (ap (turn_at t) e ∙ fresh));
  labels_long = length-set t.labels c _;
  ways_long = length-set t.ways c _;
}

-- an improvement is at a code that is not settled
pub improves_fresh : {K : Type 0} (r : Rule K) (t : Tables K) (c : ℕ) (k : K) → improves r t c k ≡ true → turn_at t c ≡ 0
improves_fresh r t c k h = eqb-true (turn_at t c) 0 (first (eqb (turn_at t c) 0) (cond (reached_at t c) (r.kind.below k (label_cost r t c)) true) h)
  where
    first : (x y : Bool) → cond x y false ≡ true → x ≡ true
    first true y e = refl
    first false y e = e

-- an offer either changes nothing, or writes an improvement
pub offered_either : {K : Type 0} (r : Rule K) (t : Tables K) (p : Place K) (b : Back) (P : Tables K → Type 0)
    → (sum_of r p.cost (r.bound p.v p.set) ≡ None → P t)
    → (improves r t (code_of r.size p.v p.set) p.cost ≡ false → P t)
    → (improves r t (code_of r.size p.v p.set) p.cost ≡ true → P (written t (code_of r.size p.v p.set) p.cost b))
    → P (offered r t p b)
offered_either {K} r t p b P none left kept = by_key (sum_of r p.cost (r.bound p.v p.set)) (λ e. none e)
  where
    c : ℕ
    c = code_of r.size p.v p.set

    by_key : (o : Option K) → (o ≡ None → P t) → P (keyed r t (code_of r.size p.v p.set) p.cost b o)
    by_key None n = n refl
    by_key (Some key) n =
        ⊎_elim
        (λ h. subst P (sym (cond-true _ _ _ h)) (kept h))
        (λ h. subst P (sym (cond-false _ _ _ h)) (left h))
        (cases_Bool (improves r t (code_of r.size p.v p.set) p.cost))

pub offered_grown : {K : Type 0} (r : Rule K) (t : Tables K) (p : Place K) (b : Back) → code_of r.size p.v p.set < length t.ways → Grown r t (offered r t p b)
offered_grown r t p b lt =
    offered_either r t p b (Grown r t) (λ e. grown_refl r t) (λ e. grown_refl r t)
    (λ h. written_grown r t (code_of r.size p.v p.set) p.cost b lt (improves_fresh r t _ _ h))

-- a settled code changes its turn only
module _ {K : Type 0} (t : Tables K) (c n : ℕ) where
  pub settled_other : (d : ℕ) → d ≢ c → turn_at (settled t c n) d ≡ turn_at t d
  settled_other d ne = ap (λ (w : Way). w.turn) (get_or-set_other t.ways c d _ no_way ne)

  pub settled_here : c < length t.ways → turn_at (settled t c n) c ≡ n
  settled_here lt = ap (λ (w : Way). w.turn) (get_or-set_same t.ways c (record { turn = n; back = back_at t c }) no_way lt)

  pub settled_back : (d : ℕ) → c < length t.ways → back_at (settled t c n) d ≡ back_at t d
  settled_back d lt =
      ⊎_elim
      (λ e. ap (back_at (settled t c n)) e ∙ ap (λ (w : Way). w.back) (get_or-set_same t.ways c (record { turn = n; back = back_at t c }) no_way lt) ∙ ap (back_at t) (sym e))
      (λ ne. ap (λ (w : Way). w.back) (get_or-set_other t.ways c d _ no_way ne))
      (cases_eq d c)

  pub settled_long : length (settled t c n).ways ≡ length t.ways
  settled_long = length-set t.ways c _
