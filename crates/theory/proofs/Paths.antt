-- Paths along runs: they compose, turn round and can be looked for. Assumes nothing.
use Rattle.std.proofs.Common.{◌≡◌, ℕ, ◌≤◌, ◌⊎◌, List, [], ◌∷◌, length, Some, None, Option, sym, refl, ap, ◌∙◌, subst, inl, inr, arith}
use native.Mathlib.Decide.{ℕ_discrete}
use Rattle.network.specs.declared.run.Run.{Run}
use Rattle.network.specs.Costs.{Kind, Laws}
use Rattle.network.specs.Layouts.{Layout, open_run, Leads, Link, Member, here, there, cost_of_run, cost_of, Path, stay, go}
use Rattle.network.proofs.Order.{left_comm, unit_r}

pub dec_both : {A B : Type 0} → Dec A → Dec B → Dec (A × B)
dec_both (yes a) (yes b) = yes (a, b)
dec_both (yes a) (no m) = no (λ q. m q.1)
dec_both (no n) d = no (λ q. n q.0)

pub dec_map : {A B : Type 0} → (A → B) → (B → A) → Dec A → Dec B
dec_map f g (yes a) = yes (f a)
dec_map f g (no n) = no (λ b. n (g b))

pub not_dec : {P : Type 0} → Dec P → Dec (¬ P)
not_dec (yes p) = no (λ n. n p)
not_dec (no n) = yes n

pub member_nil : {i : ℕ} → Member i [] → ⊥
member_nil = elim [ ]

pub same_some : {A : Type 0} {a b : A} → ◌≡◌ {A = Option A} (Some a) (Some b) → a ≡ b
same_some p = cc

pub no_some : {A : Type 0} (o : Option A) (a : A) → o ≡ None → o ≡ Some a → ⊥
no_some o a p q = let z : ◌≡◌ {A = ℕ} 0 1 = cc in omega arith

pub leads_back : {K : Type 0} {r : Run K} {u w : ℕ} {k : K} → Leads r u w k → Leads r w u k
leads_back h = record { ends = elim h.ends [ inl p ↦ inr p | inr p ↦ inl p ]; costs = h.costs }

-- a path over one run more: it does without, or takes it one way, or the other
pub data Through {K : Type 0} (l : Layout K) (r : Run K) (S : List ℕ) (u v : ℕ) : Type 0 where
  without : Path l S u v → Through l r S u v
  along : Path l S u r.a → Path l S r.b v → Through l r S u v
  against : Path l S u r.b → Path l S r.a v → Through l r S u v

-- where the run of a number begins
begin : {K : Type 0} → Option (Run K) → ℕ
begin None = 0
begin (Some r) = r.a

choose : {P : Type 0} → Dec P → ℕ → List ℕ → List ℕ
choose (yes p) i S = i ∷ S
choose (no n) i S = S

module _ {K : Type 0} {l : Layout K} where
  pub link_back : {i u w : ℕ} {k : K} → Link l i u w k → Link l i w u k
  link_back h = record { run = h.run; is_open = h.is_open; leads = leads_back h.leads }

  -- the run of a number from its one end to the other
  pub run_link : {i : ℕ} (r : Run K) → open_run l i ≡ Some r → Link l i r.a r.b r.cost
  run_link r e = record { run = r; is_open = e; leads = record { ends = inl (refl, refl); costs = refl } }

  pub one_way : {S : List ℕ} {i u w : ℕ} {k : K} → Member i S → Link l i u w k → Path l S u w
  one_way m j = go m j stay

  pub on : {S : List ℕ} {u v w : ℕ} → Path l S u v → Path l S v w → Path l S u w
  on stay q = q
  on (go m j p) q = go m j (on p q)

  pub back : {S : List ℕ} {u v : ℕ} → Path l S u v → Path l S v u
  back stay = stay
  back (go m j p) = on (back p) (one_way m (link_back j))

  pub same : {S : List ℕ} {u v : ℕ} → u ≡ v → Path l S u v
  same {S} {u} e = subst (Path l S u) e stay

  pub wider : {S T : List ℕ} → ((i : ℕ) → Member i S → Member i T) → {u v : ℕ} → Path l S u v → Path l T u v
  wider f stay = stay
  wider f (go m j p) = go (f _ m) j (wider f p)

  pub longer : {i : ℕ} {S : List ℕ} {u v : ℕ} → Path l S u v → Path l (i ∷ S) u v
  longer p = wider (λ i m. there m) p

  through_more : {r : Run K} {S : List ℕ} {i u w v : ℕ} {k : K} → Member i S → Link l i u w k → Through l r S w v → Through l r S u v
  through_more m j (without p) = without (go m j p)
  through_more m j (along p q) = along (go m j p) q
  through_more m j (against p q) = against (go m j p) q

  through_here : {r : Run K} {S : List ℕ} {u w v : ℕ} → ((r.a ≡ u) × (r.b ≡ w)) ⊎ ((r.a ≡ w) × (r.b ≡ u)) → Through l r S w v → Through l r S u v
  through_here (inl h) (without p) = along (same (sym h.0)) (on (same h.1) p)
  through_here (inl h) (along p q) = along (same (sym h.0)) q
  through_here (inl h) (against p q) = without (on (same (sym h.0)) q)
  through_here (inr h) (without p) = against (same (sym h.1)) (on (same h.0) p)
  through_here (inr h) (along p q) = without (on (same (sym h.1)) q)
  through_here (inr h) (against p q) = against (same (sym h.1)) q

  link_run : {r : Run K} {i u w : ℕ} {k : K} → open_run l i ≡ Some r → Link l i u w k → Leads r u w k
  link_run {r} {i} {u} {w} {k} e j = let f : j.run ≡ r = same_some (sym j.is_open ∙ e) in subst (λ x. Leads x u w k) f j.leads

  through_link : {r : Run K} {S : List ℕ} {h i u w v : ℕ} {k : K} → open_run l h ≡ Some r → Member i (h ∷ S) → Link l i u w k → Through l r S w v → Through l r S u v
  through_link e here j t = through_here (link_run e j).ends t
  through_link e (there m) j t = through_more m j t

  pub through : {r : Run K} {S : List ℕ} {h u v : ℕ} → open_run l h ≡ Some r → Path l (h ∷ S) u v → Through l r S u v
  through e stay = without stay
  through e (go m j p) = through_link e m j (through e p)

  pub unthrough : {r : Run K} {S : List ℕ} {h u v : ℕ} → open_run l h ≡ Some r → Through l r S u v → Path l (h ∷ S) u v
  unthrough e (without p) = longer p
  unthrough {r} e (along p q) = on (longer p) (go here (run_link r e) (longer q))
  unthrough {r} e (against p q) = on (longer p) (go here (link_back (run_link r e)) (longer q))

  -- a number without an open run is of no use
  shut_link : {S : List ℕ} {h i u w : ℕ} {k : K} → open_run l h ≡ None → Member i (h ∷ S) → Link l i u w k → Member i S
  shut_link e here j = absurd (no_some _ _ e j.is_open)
  shut_link e (there m) j = m

  pub shut : {S : List ℕ} {h u v : ℕ} → open_run l h ≡ None → Path l (h ∷ S) u v → Path l S u v
  shut e stay = stay
  shut e (go m j p) = go (shut_link e m j) j (shut e p)

  pub path_nil : {u v : ℕ} → Path l [] u v → u ≡ v
  path_nil stay = refl
  path_nil (go m j p) = absurd (member_nil m)

  -- whether there is a path
  pub dec_path : (S : List ℕ) (u v : ℕ) → Dec (Path l S u v)
  dec_path [] u v = dec_map same path_nil (ℕ_discrete u v)
  dec_path (h ∷ S) u v = by_run (open_run l h) refl (dec_path S)
    where
      look : {r : Run K} → open_run l h ≡ Some r → Dec (Path l S u v) → Dec (Path l S u r.a × Path l S r.b v) → Dec (Path l S u r.b × Path l S r.a v) → Dec (Path l (h ∷ S) u v)
      look o (yes p) d f = yes (longer p)
      look o (no a) (yes q) f = yes (unthrough o (along q.0 q.1))
      look o (no a) (no b) (yes q) = yes (unthrough o (against q.0 q.1))
      look o (no a) (no b) (no c) = no (λ p. elim (through o p) [ without q ↦ a q | along q r ↦ b (q, r) | against q r ↦ c (q, r) ])

      by_run : (x : Option (Run K)) → open_run l h ≡ x → ((u v : ℕ) → Dec (Path l S u v)) → Dec (Path l (h ∷ S) u v)
      by_run None o dec = dec_map longer (shut o) (dec u v)
      by_run (Some r) o dec = look o (dec u v) (dec_both (dec u r.a) (dec r.b v)) (dec_both (dec u r.b) (dec r.a v))

-- ---- the runs on one side of a cut

module _ {K : Type 0} (l : Layout K) where
  -- the runs of S that begin where D holds
  pub inside : {D : ℕ → Type 0} → ((x : ℕ) → Dec (D x)) → List ℕ → List ℕ
  inside dec [] = []
  inside dec (i ∷ S) = choose (dec (begin (open_run l i))) i (inside dec S)

  -- where D holds at one end of each run of S just if it holds at the other, a path from where it holds stays inside
  abbrev pub Closed : (ℕ → Type 0) → List ℕ → Type 0
  Closed D S = (i u w : ℕ) (k : K) → Member i S → Link l i u w k → D u → D w

  begins_in : (D : ℕ → Type 0) {i u w : ℕ} {k : K} → Link l i u w k → D u → D w → D (begin (open_run l i))
  unfolding begin
  begins_in D {i} {u} {w} {k} j a b = rw j.is_open (elim j.leads.ends [ inl h ↦ subst D (sym h.0) a | inr h ↦ subst D (sym h.0) b ])

  inside_member : {D : ℕ → Type 0} (dec : (x : ℕ) → Dec (D x)) {i : ℕ} {S : List ℕ} → Member i S → D (begin (open_run l i)) → Member i (inside dec S)
  unfolding inside choose
  inside_member {D} dec {i} (here {S = S}) a = pass (dec (begin (open_run l i)))
    where
      pass : (d : Dec (D (begin (open_run l i)))) → Member i (choose d i (inside dec S))
      pass (yes p) = here
      pass (no n) = absurd (n a)
  inside_member {D} dec {i} (there {j = j} {S = S} m) a = pass (dec (begin (open_run l j))) (inside_member dec m a)
    where
      pass : (d : Dec (D (begin (open_run l j)))) → Member i (inside dec S) → Member i (choose d j (inside dec S))
      pass (yes p) q = there q
      pass (no n) q = q

  pub inside_path : {D : ℕ → Type 0} (dec : (x : ℕ) → Dec (D x)) {S : List ℕ} → Closed D S → {u v : ℕ} → Path l S u v → D u → Path l (inside dec S) u v
  inside_path dec closed stay a = stay
  inside_path {D} dec closed (go {k = k} m j p) a =
      let b = closed _ _ _ k m j a in
      go (inside_member dec m (begins_in D j a b)) j (inside_path dec closed p b)

  pub inside_short : {D : ℕ → Type 0} (dec : (x : ℕ) → Dec (D x)) (S : List ℕ) → length (inside dec S) ≤ length S
  unfolding inside choose
  inside_short dec [] = omega arith
  inside_short {D} dec (i ∷ S) = pass (dec (begin (open_run l i))) (inside_short dec S)
    where
      pass : (d : Dec (D (begin (open_run l i)))) → length (inside dec S) ≤ length S → length (choose d i (inside dec S)) ≤ length (i ∷ S)
      pass (yes p) h = omega arith
      pass (no n) h = omega arith

  -- the two sides of a cut cost together what S costs
  pub sides : {kind : Kind K} (laws : Laws kind) {D : ℕ → Type 0} (dec : (x : ℕ) → Dec (D x)) (S : List ℕ)
      → kind.plus (cost_of kind l (inside dec S)) (cost_of kind l (inside (λ x. not_dec (dec x)) S)) ≡ cost_of kind l S
  unfolding inside choose not_dec
  sides {kind} laws dec [] = unit_r laws kind.zero
  sides {kind} laws {D} dec (i ∷ S) = pass (dec (begin (open_run l i))) (sides laws dec S)
    where
      A : List ℕ
      A = inside dec S

      B : List ℕ
      B = inside (λ x. not_dec (dec x)) S

      pass : (d : Dec (D (begin (open_run l i)))) → kind.plus (cost_of kind l A) (cost_of kind l B) ≡ cost_of kind l S
          → kind.plus (cost_of kind l (choose d i A)) (cost_of kind l (choose (not_dec d) i B)) ≡ kind.plus (cost_of_run kind (open_run l i)) (cost_of kind l S)
      pass (yes p) h = laws.assoc _ _ _ ∙ ap (kind.plus (cost_of_run kind (open_run l i))) h
      pass (no n) h = left_comm laws _ _ _ ∙ ap (kind.plus (cost_of_run kind (open_run l i))) h
