-- Steps of a search on a desk, one after another. Assumes nothing.
use Rattle.std.proofs.Common.{◌≡◌, ℕ, List, Option, sym, refl, ap, ◌∙◌, subst}
use Rattle.network.specs.Costs.{Kind}
use Rattle.labelling.specs.declared.desk.Desk.{Desk}
use Rattle.labelling.specs.declared.kinds.Size.{Size}
use Rattle.labelling.specs.Tables.{Rule, rule, Tables, Ready, standing}
use Rattle.labelling.specs.Desks.{with_tables, Fit, Kept}

-- a step that leaves another queue and other tables
pub kept_by : {K Q E : Type 0} (r : Rule K) (waiting : Q → List (Option K)) (ok : Q → Type 0) (lender : Q → List ℕ) (d d' : Desk Q E K) (q : Q) (t : Tables K) → d' ≡ with_tables (record d { queue = q }) t → Ready r t (waiting q) → ok q → standing (lender q) (waiting q) ≡ standing (lender d.queue) (waiting d.queue) → Kept r waiting ok lender d d'
kept_by r waiting ok lender d d' q t is ready good lends =
    subst (Kept r waiting ok lender d) (sym is) (record { fit = record { ready = ready; good = good }; lent = λ i. ((d.labels.ghost_name, d.ways.ghost_name), lends i); estimator = refl })

module _ {K Q E : Type 0} (kind : Kind K) (size : Size) (bound : E → ℕ → ℕ → K) (d d1 : Desk Q E K) (e : d1.estimator ≡ d.estimator) where
  -- what the next step left, by the rule of the first
  pub same_then : {X : Type 0} (f : Rule K → X) (x : X) → x ≡ f (rule kind (bound d1.estimator) size) → x ≡ f (rule kind (bound d.estimator) size)
  same_then f x is = is ∙ ap (λ y. f (rule kind (bound y) size)) e

module _ {K Q E : Type 0} {kind : Kind K} {size : Size} {waiting : Q → List (Option K)} {ok : Q → Type 0} {lender : Q → List ℕ} (bound : E → ℕ → ℕ → K) (d d1 : Desk Q E K)
    (h : Kept (rule kind (bound d.estimator) size) waiting ok lender d d1) where
  -- after a step the desk is fit for the next
  pub fit_again : Fit (rule kind (bound d1.estimator) size) waiting ok d1
  fit_again = subst (λ e. Fit (rule kind (bound e) size) waiting ok d1) (sym h.estimator) h.fit

  -- two steps
  pub kept_then : (d2 : Desk Q E K) → Kept (rule kind (bound d1.estimator) size) waiting ok lender d1 d2 → Kept (rule kind (bound d.estimator) size) waiting ok lender d d2
  kept_then d2 k = record { fit = subst (λ e. Fit (rule kind (bound e) size) waiting ok d2) h.estimator k.fit; lent = k.lent ∙ h.lent; estimator = k.estimator ∙ h.estimator }
