-- What a plan may not change of a desk. Assumes nothing.
use Rattle.std.specs.Prelude.{◌≡◌, ℕ, Bool, List, length, Option}
use Rattle.labelling.specs.declared.desk.Desk.{Desk}
use Rattle.labelling.specs.Desks.{lent as lent-on}

-- the desk stands: its rows and their lengths, the memory that the queue was lent and its capacity, and the memory that the
-- estimator was lent and what it fits
pub record Stands {K Q E : Type 0} (lender : Q → List ℕ) (waiting : Q → List (Option K)) (holder : E → List ℕ) (within : E → ℕ → ℕ → Bool) (d d' : Desk Q E K) : Type 0 where
  pub lent : lent-on lender waiting d' ≡ lent-on lender waiting d
  pub labels : length d'.labels.now ≡ length d.labels.now
  pub ways : length d'.ways.now ≡ length d.ways.now
  pub held : holder d'.estimator ≡ holder d.estimator
  pub room : within d'.estimator ≡ within d.estimator
