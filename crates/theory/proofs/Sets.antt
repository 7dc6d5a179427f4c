-- Numbers gathered into a set: each once, climbing. Assumes nothing.
use Rattle.std.proofs.Common.{◌≡◌, ℕ, suc, ◌<◌, ◌≤◌, false, ◌≢◌, ◌⊎◌, List, [], ◌∷◌, ◌++◌, Some, sym, refl, ap, ◌∙◌, inl, inr, arith}
use native.Mathlib.Decide.{dec_lt, ℕ_discrete}
use Rattle.network.specs.declared.run.Run.{Run}
use Rattle.network.specs.Costs.{Kind, Laws}
use Rattle.network.specs.Layouts.{Layout, open_run, Member, here, there, Climbs, none, more, OpenSet, cost_of_run, cost_of}
use Rattle.theory.specs.Derivations.{Same}
use Rattle.network.proofs.Order.{le_trans, le_eq, zero_le, mono_r, left_comm}

-- ---- members
pub drop_head : {k i : ℕ} {S : List ℕ} → k ≢ i → Member k (i ∷ S) → Member k S
drop_head ne here = absurd (ne refl)
drop_head ne (there m) = m

pub behead : {k i : ℕ} {S : List ℕ} → Member k (i ∷ S) → (k ≡ i) ⊎ Member k S
behead here = inl refl
behead (there m) = inr m

at_tail : {k j : ℕ} {S T : List ℕ} → (Member k S → Member k T) → Member k (j ∷ S) → Member k (j ∷ T)
at_tail f here = here
at_tail f (there m) = there (f m)

under_head : {k i j : ℕ} {S : List ℕ} → Member k (i ∷ S) → Member k (i ∷ (j ∷ S))
under_head here = here
under_head (there m) = there (there m)

pub in_left : {k : ℕ} {S : List ℕ} (T : List ℕ) → Member k S → Member k (S ++ T)
in_left T here = here
in_left T (there m) = there (in_left T m)

pub in_right : {k : ℕ} (S : List ℕ) {T : List ℕ} → Member k T → Member k (S ++ T)
in_right [] m = m
in_right (i ∷ S) m = there (in_right S m)

pub in_either : {k : ℕ} (S : List ℕ) {T : List ℕ} → Member k (S ++ T) → Member k S ⊎ Member k T
in_either [] m = inr m
in_either (i ∷ S) here = inl here
in_either (i ∷ S) (there m) = elim (in_either S m) [ inl a ↦ inl (there a) | inr b ↦ inr b ]

-- ---- a number in its place
place : {i j : ℕ} → Dec (i < j) → Dec (i ≡ j) → List ℕ → List ℕ → List ℕ
place {i} {j} (yes l) d p q = i ∷ (j ∷ p)
place {i} {j} (no l) (yes e) p q = j ∷ p
place {i} {j} (no l) (no e) p q = j ∷ q

add : ℕ → List ℕ → List ℕ
add i [] = i ∷ []
add i (j ∷ p) = place (dec_lt i j) (ℕ_discrete i j) p (add i p)

pub gather : List ℕ → List ℕ
gather [] = []
gather (i ∷ p) = add i (gather p)

member_new : (i : ℕ) (p : List ℕ) → Member i (add i p)
unfolding add place
member_new i [] = here
member_new i (j ∷ p) = look (dec_lt i j) (ℕ_discrete i j) (member_new i p)
  where
    look : (d : Dec (i < j)) (e : Dec (i ≡ j)) → Member i (add i p) → Member i (place d e p (add i p))
    look (yes l) e ih = here
    look (no l) (yes e) ih = rw e here
    look (no l) (no e) ih = there ih

member_add : (k i : ℕ) (p : List ℕ) → Member k p → Member k (add i p)
unfolding add place
member_add k i [] m = there m
member_add k i (j ∷ p) m = look (dec_lt i j) (ℕ_discrete i j) (member_add k i p) m
  where
    look : (d : Dec (i < j)) (e : Dec (i ≡ j)) → (Member k p → Member k (add i p)) → Member k (j ∷ p) → Member k (place d e p (add i p))
    look (yes l) e ih m = there m
    look (no l) (yes e) ih m = m
    look (no l) (no e) ih m = at_tail ih m

member_from : (k i : ℕ) (p : List ℕ) → Member k (add i p) → Member k (i ∷ p)
unfolding add place
member_from k i [] m = m
member_from k i (j ∷ p) m = look (dec_lt i j) (ℕ_discrete i j) (member_from k i p) m
  where
    look : (d : Dec (i < j)) (e : Dec (i ≡ j)) → (Member k (add i p) → Member k (i ∷ p)) → Member k (place d e p (add i p)) → Member k (i ∷ (j ∷ p))
    look (yes l) e ih m = m
    look (no l) (yes e) ih m = there m
    look (no l) (no e) ih m = elim (behead m) [ inl h ↦ there (rw h here) | inr n ↦ under_head (ih n) ]

gather_to : (k : ℕ) (p : List ℕ) → Member k p → Member k (gather p)
unfolding gather
gather_to k [] m = elim m [ ]
gather_to k (i ∷ p) here = member_new k (gather p)
gather_to k (i ∷ p) (there m) = member_add k i (gather p) (gather_to k p m)

gather_from : (k : ℕ) (p : List ℕ) → Member k (gather p) → Member k p
unfolding gather
gather_from k [] m = m
gather_from k (i ∷ p) m = at_tail (gather_from k p) (member_from k i (gather p) m)

pub gather_same : (p : List ℕ) → Same (gather p) p
gather_same p = record { from = λ i m. gather_from i p m; to = λ i m. gather_to i p m }

-- ---- sets of open runs
module _ {K : Type 0} (l : Layout K) where
  -- the run of a number is open
  abbrev pub IsOpen : ℕ → Type 0
  IsOpen i = (r : Run K) × (open_run l i ≡ Some r)

  climbs_add : {low i : ℕ} {S : List ℕ} → low ≤ i → IsOpen i → Climbs l low S → Climbs l low (add i S)
  unfolding add place
  climbs_add a o none = more a o.1 none
  climbs_add {low} {i} a o (more {i = j} {S = S} b p c) = look (dec_lt i j) (ℕ_discrete i j) (λ h. climbs_add h o c)
    where
      look : (d : Dec (i < j)) (e : Dec (i ≡ j)) → (suc j ≤ i → Climbs l (suc j) (add i S)) → Climbs l low (place d e S (add i S))
      look (yes h) e ih = more a o.1 (more h p c)
      look (no h) (yes e) ih = more b p c
      look (no h) (no e) ih = more b p (ih (omega arith))

  pub gather_open : (p : List ℕ) → ((i : ℕ) → Member i p → IsOpen i) → OpenSet l (gather p)
  unfolding gather
  gather_open [] f = none
  gather_open (i ∷ p) f = climbs_add (omega arith) (f i here) (gather_open p (λ k m. f k (there m)))

  pub climbs_above : {low k : ℕ} {S : List ℕ} → Climbs l low S → Member k S → low ≤ k
  climbs_above none m = elim m [ ]
  climbs_above (more a o c) here = a
  climbs_above (more a o c) (there m) = let h = climbs_above c m in omega arith

  module _ {kind : Kind K} (laws : Laws kind) where
    open kind use {plus, below}

    -- a number taken out of a list once
    record Without (i : ℕ) (L : List ℕ) : Type 0 where
      rest : List ℕ
      costs : cost_of kind l L ≡ plus (cost_of_run kind (open_run l i)) (cost_of kind l rest)
      keeps : (k : ℕ) → k ≢ i → Member k L → Member k rest

    take_out : {i : ℕ} {L : List ℕ} → Member i L → Without i L
    take_out {i} (here {S = S}) = record { rest = S; costs = refl; keeps = λ k ne m. drop_head ne m }
    take_out {i} (there {j = j} {S = S} m) =
        let q = take_out m in
        record { rest = j ∷ q.rest; costs = ap (plus (cost_of_run kind (open_run l j))) q.costs ∙ left_comm laws _ _ _; keeps = λ k ne n. at_tail (q.keeps k ne) n }

    -- a set whose members stand in a list costs no more than the list
    pub set_within : {low : ℕ} {S : List ℕ} (L : List ℕ) → Climbs l low S → ((k : ℕ) → Member k S → Member k L) → below (cost_of kind l L) (cost_of kind l S) ≡ false
    set_within L none f = zero_le laws _
    set_within L (more {i = i} a o c) f =
        let q = take_out (f i here) in
        le_trans laws _ _ _ (mono_r laws _ _ _ (set_within q.rest c (λ k m. q.keeps k (λ e. absurd (omega (arith, climbs_above c m))) (f k (there m)))))
        (le_eq laws (sym q.costs))

    pub cost_append : (S T : List ℕ) → cost_of kind l (S ++ T) ≡ plus (cost_of kind l S) (cost_of kind l T)
    cost_append [] T = sym (laws.neutral _)
    cost_append (i ∷ S) T = ap (plus (cost_of_run kind (open_run l i))) (cost_append S T) ∙ sym (laws.assoc _ _ _)
