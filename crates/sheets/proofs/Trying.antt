-- Turns tried with the tools that were chosen. Assumes nothing.
use Rattle.std.proofs.Common.{◌≡◌, ℕ, min, Bool, true, ◌&&◌, List, Result, Ok, Err, IfOk, MatchResult, vec_items, sym, subst, arith}
use Rattle.std.specs.declared.vec.Vec.{Vec}
use Rattle.network.specs.declared.refusal.Refusal.{Refusal}
use Rattle.network.specs.Costs.{Kind}
use Rattle.estimate.specs.Estimates.{Silence}
use Rattle.estimate.specs.Greater.{GreaterOf}
use Rattle.farthest.specs.Distances.{Far}
use Rattle.farthest.specs.Memories.{has_room}
use Rattle.commands.specs.declared.command.EstimatorChoice.{EstimatorChoice}
use Rattle.commands.specs.declared.command.EstimatorChoice.TheVariants.{Silent, Farthest, Larger}
use Rattle.replay.specs.declared.turn.Turn.{Turn}
use Rattle.replay.specs.Calls.{desk}
use Rattle.requests.specs.declared.tools.Tools.{Tools}
use Rattle.sheets.specs.declared.sheet.Untried.{Untried}
use Rattle.sheets.specs.Sheets.{TriedBy, Tried, makes_of, desk_for, queue_room}

-- a heap over three rows of one length
pub held_all : (n a b c : ℕ) → a ≡ n → b ≡ n → c ≡ n → min 4294967295 (min a (min b c)) ≡ min 4294967295 n
held_all n a b c p q s = omega arith

module _ {K : Type 0} (kind : Kind K) (labels ways codes places : ℕ) (n capacity : ℕ) (ts ts' : List (Turn K)) (r : Result (Unit {0}) Refusal) (e : EstimatorChoice) where
  pub by_silent : e ≡ Silent → TriedBy kind (λ _. Silence kind) (desk labels ways codes (λ _ _. true)) n capacity ts ts' r → TriedBy kind (makes_of kind e) (desk_for labels ways codes e places) n capacity ts ts' r
  by_silent is h = subst (λ x. TriedBy kind (makes_of kind x) (desk_for labels ways codes x places) n capacity ts ts' r) (sym is) h

  pub by_farthest : (fits : ℕ → ℕ → Bool) → e ≡ Farthest → fits ≡ has_room places → TriedBy kind (Far kind) (desk labels ways codes fits) n capacity ts ts' r → TriedBy kind (makes_of kind e) (desk_for labels ways codes e places) n capacity ts ts' r
  by_farthest fits is room h =
      subst (λ x. TriedBy kind (makes_of kind x) (desk_for labels ways codes x places) n capacity ts ts' r) (sym is) (subst (λ f. TriedBy kind (Far kind) (desk labels ways codes f) n capacity ts ts' r) room h)

  pub by_larger : (fits : ℕ → ℕ → Bool) → e ≡ Larger → fits ≡ has_room places → TriedBy kind (λ l. GreaterOf kind (Silence kind) (Far kind l)) (desk labels ways codes (λ m k. true && fits m k)) n capacity ts ts' r
      → TriedBy kind (makes_of kind e) (desk_for labels ways codes e places) n capacity ts ts' r
  by_larger fits is room h =
      subst (λ x. TriedBy kind (makes_of kind x) (desk_for labels ways codes x places) n capacity ts ts' r) (sym is)
      (subst (λ f. TriedBy kind (λ l. GreaterOf kind (Silence kind) (Far kind l)) (desk labels ways codes (λ m k. true && f m k)) n capacity ts ts' r) room h)

  -- the same queue and rows, by their lengths
  pub measured : (labels' ways' codes' places' : ℕ) → labels' ≡ labels → ways' ≡ ways → codes' ≡ codes → places' ≡ places
      → TriedBy kind (makes_of kind e) (desk_for labels' ways' codes' e places') n capacity ts ts' r → TriedBy kind (makes_of kind e) (desk_for labels ways codes e places) n capacity ts ts' r
  measured labels' ways' codes' places' p q s u h =
      subst (λ x. TriedBy kind (makes_of kind e) (desk_for labels ways codes e x) n capacity ts ts' r) u
      (subst (λ x. TriedBy kind (makes_of kind e) (desk_for labels ways x e places') n capacity ts ts' r) s
      (subst (λ x. TriedBy kind (makes_of kind e) (desk_for labels x codes' e places') n capacity ts ts' r) q
      (subst (λ x. TriedBy kind (makes_of kind e) (desk_for x ways' codes' e places') n capacity ts ts' r) p h)))

-- the queue that was chosen, by how many codes it has
pub chosen : {K E : Type 0} (kind : Kind K) (tools : Tools) (labels places n capacity : ℕ) (ts ts' : List (Turn K)) (r : Result (Result (Unit {0}) Refusal) E) (codes : ℕ) → codes ≡ queue_room tools.queue labels
    → IfOk r (λ made. TriedBy kind (makes_of kind tools.estimator) (desk_for labels labels codes tools.estimator places) n capacity ts ts' made) → IfOk r (λ made. Tried kind tools labels places n capacity ts ts' made)
chosen kind tools labels places n capacity ts ts' r codes is h =
    subst (λ x. IfOk r (λ made. TriedBy kind (makes_of kind tools.estimator) (desk_for labels labels x tools.estimator places) n capacity ts ts' made)) is h

-- what was tried, by equal numbers and turns
pub moved : {K : Type 0} (kind : Kind K) (tools : Tools) (n : ℕ) (refused : Result (Unit {0}) Refusal) (labels labels' places places' capacity capacity' : ℕ) (ts us ts' us' : List (Turn K))
    → labels ≡ labels' → places ≡ places' → capacity ≡ capacity' → ts ≡ us → ts' ≡ us' → Tried kind tools labels places n capacity ts ts' refused → Tried kind tools labels' places' n capacity' us us' refused
moved kind tools n refused labels labels' places places' capacity capacity' ts us ts' us' p q s u v h =
    subst (λ x. Tried kind tools labels' places' n capacity' us x refused) v
    (subst (λ x. Tried kind tools labels' places' n capacity' x ts' refused) u
    (subst (λ x. Tried kind tools labels' places' n x ts ts' refused) s
    (subst (λ x. Tried kind tools labels' x n capacity ts ts' refused) q
    (subst (λ x. Tried kind tools x places n capacity ts ts' refused) p h))))

-- what a trial says of its turns, by how the making went
pub told : {K : Type 0} (kind : Kind K) (tools : Tools) (labels places n capacity : ℕ) (ts : List (Turn K)) (v : Vec (Turn K) _) (made : Result (Unit {0}) Refusal) (r : Result (Vec (Turn K) _) (Untried K))
    → MatchResult made (λ _. r ≡ Ok v) (λ why. r ≡ Err (record { why = why; turns = v })) → Tried kind tools labels places n capacity ts (vec_items v) made
    → MatchResult r (λ x. Tried kind tools labels places n capacity ts (vec_items x) (Ok tt)) (λ u. Tried kind tools labels places n capacity ts (vec_items u.turns) (Err u.why))
told kind tools labels places n capacity ts v (Ok u) r h t =
    subst (λ y. MatchResult y (λ x. Tried kind tools labels places n capacity ts (vec_items x) (Ok tt)) (λ u. Tried kind tools labels places n capacity ts (vec_items u.turns) (Err u.why))) (sym h) t
told kind tools labels places n capacity ts v (Err why) r h t =
    subst (λ y. MatchResult y (λ x. Tried kind tools labels places n capacity ts (vec_items x) (Ok tt)) (λ u. Tried kind tools labels places n capacity ts (vec_items u.turns) (Err u.why))) (sym h) t
