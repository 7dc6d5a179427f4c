-- Turn after turn: what was tried, with what is left, gives the whole. Assumes nothing.
use Rattle.std.proofs.Common.{◌≡◌, ℕ, ◌+◌, ◌<◌, ◌≤◌, List, [], ◌∷◌, ◌++◌, length, get_or, take, drop, set, sym, ap, ◌∙◌, subst, append_assoc, arith}
use Rattle.std.proofs.lemmas.List.{append-nil, drop_all, drop-drop, drop_more, drop-set-lt, take_all, take_more_set}
use Rattle.network.specs.Costs.{Kind}
use Rattle.network.specs.Layouts.{Layout}
use Rattle.district.specs.Model.{Model}
use Rattle.replay.specs.declared.turn.Turn.{Turn}
use Rattle.replay.specs.Calls.{Desk, after}
use Rattle.replay.specs.Sequence.{Answered, Replayed, none, more}

module _ {K : Type 0} (kind : Kind K) (makes : Layout K → (ℕ → ℕ → K) → Type 0) (desk : Desk) (m₀ : Model K) (ts₀ : List (Turn K)) where
  -- the first i turns are tried, the others are as they were, and with what is left they give the whole
  pub record Left (m : Model K) (i : ℕ) (ts : List (Turn K)) : Type 0 where
    pub same : drop i ts ≡ drop i ts₀
    pub whole : (ts' : List (Turn K)) → Replayed kind makes desk m (drop i ts₀) ts' → Replayed kind makes desk m₀ ts₀ (take i ts ++ ts')

  pub step : (m m' : Model K) (i : ℕ) (ts : List (Turn K)) (d t' : Turn K) → i < length ts → Answered kind makes desk m (get_or ts i d) t' → m' ≡ after kind m (get_or ts i d).call → Left m i ts → Left m' (i + 1) (set ts i t')
  step m m' i ts d t' l a w left =
      let t = get_or ts i d in
      let split : drop i ts₀ ≡ t ∷ drop (i + 1) ts = sym left.same ∙ drop_more ts i d l in
      let rest : drop (i + 1) ts ≡ drop (i + 1) ts₀ = sym (drop-drop 1 i ts) ∙ (ap (drop 1) left.same ∙ drop-drop 1 i ts₀) in
      record {
        same = drop-set-lt (i + 1) ts i t' (omega arith) ∙ rest;
        whole = λ ts' r.
            let r' : Replayed kind makes desk (after kind m t.call) (drop (i + 1) ts) ts' = subst (λ x. Replayed kind makes desk x (drop (i + 1) ts) ts') w (subst (λ x. Replayed kind makes desk m' x ts') (sym rest) r) in
            let p : Replayed kind makes desk m (t ∷ drop (i + 1) ts) (t' ∷ ts') = more a r' in
            let q = left.whole (t' ∷ ts') (subst (λ x. Replayed kind makes desk m x (t' ∷ ts')) (sym split) p) in
            let e : take (i + 1) (set ts i t') ++ ts' ≡ take i ts ++ t' ∷ ts' = ap (λ x. x ++ ts') (take_more_set ts i t' l) ∙ append_assoc (take i ts) (t' ∷ []) ts' in
            subst (Replayed kind makes desk m₀ ts₀) (sym e) q;
      }

  pub finish : (m : Model K) (i : ℕ) (ts : List (Turn K)) → length ts ≤ i → Left m i ts → Replayed kind makes desk m₀ ts₀ ts
  finish m i ts l left =
      let nil : [] ≡ drop i ts₀ = sym (drop_all i ts l) ∙ left.same in
      let r = left.whole [] (subst (λ x. Replayed kind makes desk m x []) nil none) in
      subst (Replayed kind makes desk m₀ ts₀) (append-nil (take i ts) ∙ take_all i ts l) r
