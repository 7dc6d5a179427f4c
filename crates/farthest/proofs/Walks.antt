-- Walks along runs: from each a set of runs is left that joins the same ends and costs no more. Assumes nothing.
use Rattle.std.proofs.Common.{◌≡◌, ℕ, zero, suc, ◌+◌, ◌≤◌, false, ◌⊎◌, List, [], ◌∷◌, length, sym, refl, ap, ◌∙◌, subst, inl, inr, arith}
use Rattle.network.specs.Costs.{Kind, Laws}
use Rattle.network.specs.declared.run.Run.{Run}
use Rattle.farthest.proofs.Graph.{Spans, Joins, here, there, Way, stay, go, Within, Part, none, leave, keep, total, Walk, stand, step}
use Rattle.network.proofs.Order.{le_eq, le_trans, mono_l, mono_r, left_comm, le_plus, le_plus_l, unit_r}

-- S is E without one run e
pub data Without {C : Type 0} (e : Run C) : List (Run C) → List (Run C) → Type 0 where
  first : {E : List (Run C)} → Without e (e ∷ E) E
  later : {d : Run C} {E S : List (Run C)} → Without e E S → Without e (d ∷ E) (d ∷ S)

module _ {C : Type 0} where
  pub spans_back : {e : Run C} {u w : ℕ} {k : C} → Spans e u w k → Spans e w u k
  spans_back (inl h) = inr h
  spans_back (inr h) = inl h

  pub joins_back : {u w : ℕ} {k : C} {S : List (Run C)} → Joins u w k S → Joins w u k S
  joins_back (here h) = here (spans_back h)
  joins_back (there j) = there (joins_back j)

  pub joins_nil : {u w : ℕ} {k : C} → Joins u w k [] → ⊥
  joins_nil = elim [ ]

  -- the run of a step taken out
  pub record Taken (S : List (Run C)) (u w : ℕ) (k : C) : Type 0 where
    pub run : Run C
    pub rest : List (Run C)
    pub out : Without run S rest
    pub spans : Spans run u w k

  pub take_out : {u w : ℕ} {k : C} {S : List (Run C)} → Joins u w k S → Taken S u w k
  take_out (here {e = e} {S = S} h) = record { run = e; rest = S; out = first; spans = h }
  take_out (there {e = d} {S = S} j) = let t = take_out j in record { run = t.run; rest = d ∷ t.rest; out = later t.out; spans = t.spans }

  pub without_length : {e : Run C} {S T : List (Run C)} → Without e S T → length S ≡ suc (length T)
  without_length first = refl
  without_length (later w) = ap suc (without_length w)

  pub without_to : {e : Run C} {S T : List (Run C)} → Without e S T → Within S (e ∷ T)
  without_to first u w k j = j
  without_to (later o) u w k (here h) = there (here h)
  without_to {e} (later {d = d} {E = E} {S = S} o) u w k (there j) = skip (without_to o u w k j)
    where
      skip : Joins u w k (e ∷ S) → Joins u w k (e ∷ (d ∷ S))
      skip (here h) = here h
      skip (there i) = there (there i)

  pub without_from : {e : Run C} {S T : List (Run C)} → Without e S T → Within (e ∷ T) S
  without_from first u w k j = j
  without_from (later o) u w k (here h) = there (without_from o u w k (here h))
  without_from (later o) u w k (there (here h)) = here h
  without_from (later o) u w k (there (there j)) = there (without_from o u w k (there j))

  pub nothing_of : (S : List (Run C)) → Part [] S
  nothing_of [] = none
  nothing_of (e ∷ S) = leave (nothing_of S)

  pub part_within : {T S : List (Run C)} → Part T S → Within T S
  part_within none u w k j = j
  part_within (leave p) u w k j = there (part_within p u w k j)
  part_within (keep p) u w k (here h) = here h
  part_within (keep p) u w k (there j) = there (part_within p u w k j)

  pub part_length : {T S : List (Run C)} → Part T S → length T ≤ length S
  part_length none = omega arith
  part_length (leave p) = let h = part_length p in omega arith
  part_length (keep p) = let h = part_length p in omega arith

  -- without a run, and with it again
  part_leave : {e : Run C} {S F : List (Run C)} → Without e S F → {T : List (Run C)} → Part T F → Part T S
  part_leave first p = leave p
  part_leave (later o) (leave p) = leave (part_leave o p)
  part_leave (later o) (keep p) = keep (part_leave o p)

  -- a set of runs does without a run, or joins its ends
  pub part_split : {e : Run C} {S F : List (Run C)} → Without e S F → {T : List (Run C)} → Part T S → Part T F ⊎ Joins e.a e.b e.cost T
  part_split first (leave p) = inl p
  part_split first (keep p) = inr (here (inl (record { starts = refl; stops = refl; costs = refl })))
  part_split (later o) (leave p) = elim (part_split o p) [ inl q ↦ inl (leave q) | inr j ↦ inr j ]
  part_split (later o) (keep p) = elim (part_split o p) [ inl q ↦ inl (keep q) | inr j ↦ inr (there j) ]

  pub record Again (e : Run C) (T S : List (Run C)) : Type 0 where
    pub set : List (Run C)
    pub part : Part set S
    pub out : Without e set T

  pub part_again : {e : Run C} {S F : List (Run C)} → Without e S F → {T : List (Run C)} → Part T F → Again e T S
  part_again {e} first {T} p = record { set = e ∷ T; part = keep p; out = first }
  part_again (later o) (leave p) = let a = part_again o p in record { set = a.set; part = leave a.part; out = a.out }
  part_again (later {d = d} o) (keep p) = let a = part_again o p in record { set = d ∷ a.set; part = keep a.part; out = later a.out }

module _ {C : Type 0} {kind : Kind C} (laws : Laws kind) where
  infix 40 ◌⊑◌
  abbrev ◌⊑◌ : C → C → Type 0
  a ⊑ b = kind.below b a ≡ false

  pub without_total : {e : Run C} {S T : List (Run C)} → Without e S T → total kind S ≡ kind.plus e.cost (total kind T)
  without_total first = refl
  without_total (later o) = ap (kind.plus _) (without_total o) ∙ left_comm laws _ _ _

  pub part_total : {T S : List (Run C)} → Part T S → total kind T ⊑ total kind S
  part_total none = laws.irrefl kind.zero
  part_total (leave p) = le_trans laws _ _ _ (part_total p) (le_plus_l laws _ _)
  part_total (keep p) = mono_r laws _ _ _ (part_total p)

  pub wider : {S T : List (Run C)} → Within S T → {u v n : ℕ} {c : C} → Walk kind S u v n c → Walk kind T u v n c
  wider f stand = stand
  wider f (step j p) = step (f _ _ _ j) (wider f p)

  pub on : {S : List (Run C)} {u v w m n : ℕ} {c d : C} → Walk kind S u v m c → Walk kind S v w n d → Walk kind S u w (m + n) (kind.plus d c)
  on {S} {u} {w = w} {n = n} {d = d} stand q = subst (λ i. Walk kind S u w i (kind.plus d kind.zero)) (omega arith) (subst (Walk kind S u w n) (sym (unit_r laws d)) q)
  on {S} {u} {v} {w} {n = n} {d = d} (step {n = i} {c = c} {k = k} j p) q =
      subst (λ i. Walk kind S u w i (kind.plus d (kind.plus c k))) (omega arith) (subst (Walk kind S u w (suc (i + n))) (laws.assoc d c k) (step j (on p q)))

  -- the walk from the last use of e on, or all of it
  data Last (e : Run C) (S : List (Run C)) (u v : ℕ) (c : C) : Type 0 where
    never : {n : ℕ} {d : C} → Walk kind S u v n d → d ⊑ c → Last e S u v c
    from_b : {n : ℕ} {d : C} → Walk kind S e.b v n d → d ⊑ c → Last e S u v c
    from_a : {n : ℕ} {d : C} → Walk kind S e.a v n d → d ⊑ c → Last e S u v c

  last_step : {e : Run C} {S : List (Run C)} {u w v : ℕ} {c k : C} → Joins u w k (e ∷ S) → Last e S w v c → Last e S u v (kind.plus c k)
  last_step j (from_b p h) = from_b p (le_trans laws _ _ _ h (le_plus laws _ _))
  last_step j (from_a p h) = from_a p (le_trans laws _ _ _ h (le_plus laws _ _))
  last_step {e} {S} {u} {w} {v} (here (inl s)) (never {n = n} {d = d} p h) = from_b (subst (λ x. Walk kind S x v n d) (sym s.stops) p) (le_trans laws _ _ _ h (le_plus laws _ _))
  last_step {e} {S} {u} {w} {v} (here (inr s)) (never {n = n} {d = d} p h) = from_a (subst (λ x. Walk kind S x v n d) (sym s.starts) p) (le_trans laws _ _ _ h (le_plus laws _ _))
  last_step (there j) (never p h) = never (step j p) (mono_l laws _ _ _ h)

  last_use : {e : Run C} {S : List (Run C)} {u v n : ℕ} {c : C} → Walk kind (e ∷ S) u v n c → Last e S u v c
  last_use stand = never stand (laws.irrefl kind.zero)
  last_use (step j p) = last_step j (last_use p)

  -- a set of runs of S along which one walks from u to v, paying each run once, at no more than c
  pub record Short (S : List (Run C)) (u v : ℕ) (c : C) : Type 0 where
    pub set : List (Run C)
    pub steps : ℕ
    pub part : Part set S
    pub walk : Walk kind set u v steps (total kind set)
    pub few : steps ≤ length set
    pub cheap : total kind set ⊑ c

  short_skip : {e : Run C} {S F : List (Run C)} {u v : ℕ} {c d : C} → Without e S F → c ⊑ d → Short F u v c → Short S u v d
  short_skip o h s = record { set = s.set; steps = s.steps; part = part_leave o s.part; walk = s.walk; few = s.few; cheap = le_trans laws _ _ _ s.cheap h }

  short_step : {e : Run C} {S F : List (Run C)} {u w v : ℕ} {c d k : C} → Without e S F → Spans e u w k → c ⊑ d → Short F w v c → Short S u v (kind.plus d k)
  short_step {e} {S} {F} {u} {w} {v} {c} {d} {k} o j h s =
      let a = part_again o s.part in
      let costs : e.cost ≡ k = elim j [ inl x ↦ x.costs | inr x ↦ x.costs ] in
      let sum : kind.plus (total kind s.set) k ≡ total kind a.set = sym (without_total a.out ∙ (laws.comm _ _ ∙ ap (kind.plus (total kind s.set)) costs)) in
      let walked = step (without_from a.out u w k (here j)) (wider (λ x y z i. without_from a.out x y z (there i)) s.walk) in
      record {
        set = a.set;
        steps = suc s.steps;
        part = a.part;
        walk = subst (Walk kind a.set u v (suc s.steps)) sum walked;
        few = let f = s.few in let l = without_length a.out in omega arith;
        cheap = le_trans laws _ _ _ (le_eq laws (sym sum)) (mono_l laws _ _ _ (le_trans laws _ _ _ s.cheap h));
      }

  -- the first run of a walk taken out: what follows its last use does without it
  last_out : {n : ℕ} {S : List (Run C)} {u w v m : ℕ} {c k : C} → length S ≤ suc n → (t : Taken S u w k) → Walk kind S w v m c
      → ((F : List (Run C)) → length F ≤ n → (x y i : ℕ) (d : C) → Walk kind F x y i d → Short F x y d) → Short S u v (kind.plus c k)
  last_out {n} {S} {u} {w} {v} {m} {c} {k} l t p again = at t.spans (last_use (wider (without_to t.out) p))
    where
      less : length t.rest ≤ n
      less = let e = without_length t.out in omega arith

      moved : {x y i : ℕ} {d : C} → x ≡ y → Walk kind t.rest x v i d → Walk kind t.rest y v i d
      moved {x} {y} {i} {d} e q = subst (λ z. Walk kind t.rest z v i d) e q

      at : Spans t.run u w k → Last t.run t.rest w v c → Short S u v (kind.plus c k)
      at s (never q h) = short_step t.out s h (again t.rest less _ _ _ _ q)
      at (inl s) (from_b q h) = short_step t.out (inl s) h (again t.rest less _ _ _ _ (moved s.stops q))
      at (inr s) (from_b q h) = short_skip t.out (le_trans laws _ _ _ h (le_plus laws _ _)) (again t.rest less _ _ _ _ (moved s.stops q))
      at (inl s) (from_a q h) = short_skip t.out (le_trans laws _ _ _ h (le_plus laws _ _)) (again t.rest less _ _ _ _ (moved s.starts q))
      at (inr s) (from_a q h) = short_step t.out (inr s) h (again t.rest less _ _ _ _ (moved s.starts q))

  shorter : (n : ℕ) (S : List (Run C)) → length S ≤ n → {u v m : ℕ} {c : C} → Walk kind S u v m c → Short S u v c
  shorter n S l stand = record { set = []; steps = 0; part = nothing_of S; walk = stand; few = omega arith; cheap = laws.irrefl kind.zero }
  shorter zero [] l (step j p) = absurd (joins_nil j)
  shorter zero (e ∷ S) l (step j p) = absurd (omega arith)
  shorter (suc n) S l (step {c = c} {k = k} j p) = last_out l (take_out j) p (λ F h x y i d q. shorter n F h q)

  pub shorten : {S : List (Run C)} {u v m : ℕ} {c : C} → Walk kind S u v m c → Short S u v c
  shorten {S} p = shorter (length S) S (omega arith) p

  -- a way is a walk at some cost
  pub walk_of : {S : List (Run C)} {u v : ℕ} → Way S u v → (n : ℕ) × (c : C) × Walk kind S u v n c
  walk_of stay = (0, kind.zero, stand)
  walk_of (go {k = k} j p) = let q = walk_of p in (suc q.0, kind.plus q.1 k, step j q.2)

  pub way_of : {S : List (Run C)} {u v n : ℕ} {c : C} → Walk kind S u v n c → Way S u v
  way_of stand = stay
  way_of (step j p) = go j (way_of p)
