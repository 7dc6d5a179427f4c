-- What the laws give of costs: the order `a ⊑ b`, that b is not below a. Assumes nothing.
use Rattle.std.proofs.Common.{◌≡◌, true, false, ◌⊎◌, sym, ap, ◌∙◌, inl, inr}
use Rattle.std.proofs.lemmas.Bool.{cases_Bool, both_ways, cond_both}
use Rattle.network.specs.Costs.{Kind, Laws, greater}

module _ {C : Type 0} {kind : Kind C} (laws : Laws kind) where
  open kind use {zero, plus, below}

  infix 40 ◌⊑◌
  abbrev ◌⊑◌ : C → C → Type 0
  a ⊑ b = below b a ≡ false

  pub le_eq : {a b : C} → a ≡ b → a ⊑ b
  le_eq {a} {b} e = rw e (laws.irrefl b)

  pub le_trans : (a b c : C) → a ⊑ b → b ⊑ c → a ⊑ c
  le_trans a b c h k = look (cases_Bool (below c a)) (cases_Bool (below a b))
    where
      look : (below c a ≡ true) ⊎ (below c a ≡ false) → (below a b ≡ true) ⊎ (below a b ≡ false) → a ⊑ c
      look (inr e) d = e
      look (inl e) (inl d) = absurd (both_ways (below c b) k (laws.trans c a b e d))
      look (inl e) (inr d) = rw (laws.equal a b d h) k

  -- what is below is at most
  pub weaken : (a b : C) → below a b ≡ true → a ⊑ b
  weaken a b h = look (cases_Bool (below b a))
    where
      look : (below b a ≡ true) ⊎ (below b a ≡ false) → a ⊑ b
      look (inr e) = e
      look (inl e) = absurd (both_ways (below a a) (laws.irrefl a) (laws.trans a b a h e))

  pub zero_le : (a : C) → zero ⊑ a
  zero_le a = laws.least a

  pub unit_r : (a : C) → plus a zero ≡ a
  unit_r a = laws.comm a zero ∙ laws.neutral a

  pub left_comm : (a b c : C) → plus a (plus b c) ≡ plus b (plus a c)
  left_comm a b c = sym (laws.assoc a b c) ∙ ap (λ x. plus x c) (laws.comm a b) ∙ laws.assoc b a c

  pub mono_l : (a b c : C) → a ⊑ b → plus a c ⊑ plus b c
  mono_l a b c h = laws.shift b a c ∙ h

  pub mono_r : (a b c : C) → a ⊑ b → plus c a ⊑ plus c b
  mono_r a b c h = rw (laws.comm c a, laws.comm c b) (mono_l a b c h)

  pub mono : (a b c d : C) → a ⊑ b → c ⊑ d → plus a c ⊑ plus b d
  mono a b c d h k = le_trans _ (plus b c) _ (mono_l a b c h) (mono_r c d b k)

  pub cancel : (a b c : C) → plus a c ⊑ plus b c → a ⊑ b
  cancel a b c h = sym (laws.shift b a c) ∙ h

  pub cancel_l : (a b c : C) → plus c a ⊑ plus c b → a ⊑ b
  cancel_l a b c h = cancel a b c (rw (laws.comm a c, laws.comm b c) h)

  -- a cost added makes no cheaper
  pub le_plus : (a b : C) → a ⊑ plus a b
  le_plus a b = le_trans _ (plus a zero) _ (le_eq (sym (unit_r a))) (mono_r zero b a (zero_le b))

  pub le_plus_l : (a b : C) → b ⊑ plus a b
  le_plus_l a b = le_trans _ _ _ (le_plus b a) (le_eq (laws.comm b a))

  pub plus_swap : (a b c d : C) → plus (plus a b) (plus c d) ≡ plus (plus a c) (plus b d)
  plus_swap a b c d = simp (laws.assoc, left_comm)

  -- the greater of two costs is at least both, and at most what both are at most
  pub greater_l : (a b : C) → a ⊑ greater kind a b
  greater_l a b = cond_both (below a b) b a (λ x. a ⊑ x) (λ e. weaken a b e) (λ e. laws.irrefl a)

  pub greater_r : (a b : C) → b ⊑ greater kind a b
  greater_r a b = cond_both (below a b) b a (λ x. b ⊑ x) (λ e. laws.irrefl b) (λ e. e)

  pub greater_le : (a b c : C) → a ⊑ c → b ⊑ c → greater kind a b ⊑ c
  greater_le a b c h l = cond_both (below a b) b a (λ x. x ⊑ c) (λ e. l) (λ e. h)
