-- A desk that stands, step by step. Assumes nothing.
use Rattle.std.proofs.Common.{ℕ, Bool, List, Option, refl, ◌∙◌}
use Rattle.labelling.specs.declared.desk.Desk.{Desk}
use Rattle.search.specs.Desks.{Stands}

module _ {K Q E : Type 0} (lender : Q → List ℕ) (waiting : Q → List (Option K)) (holder : E → List ℕ) (within : E → ℕ → ℕ → Bool) where
  pub stands_as_is : (d : Desk Q E K) → Stands lender waiting holder within d d
  stands_as_is d = record { lent = refl; labels = refl; ways = refl; held = refl; room = refl }

  pub stands_on : (d d' d'' : Desk Q E K) → Stands lender waiting holder within d d' → Stands lender waiting holder within d' d'' → Stands lender waiting holder within d d''
  stands_on d d' d'' p q = record { lent = q.lent ∙ p.lent; labels = q.labels ∙ p.labels; ways = q.ways ∙ p.ways; held = q.held ∙ p.held; room = q.room ∙ p.room }
