-- A queue keeps its capacity. Assumes nothing.
use Rattle.std.proofs.Common.{◌≡◌, ℕ, Bool, List, length, Option, ap, ◌∙◌}
use Rattle.std.proofs.lemmas.List.{length-set}
use Rattle.queue.specs.Waits.{put_in}
use Rattle.labelling.specs.Tables.{standing}

module _ {K : Type 0} (ls ls' : List ℕ) (ks ks' : List (Option K)) (lends : ls' ≡ ls) where
  both : length ks' ≡ length ks → standing ls' ks' ≡ standing ls ks
  both e = λ i. (lends i, e i)

  pub stands_put : (below : K → K → Bool) (c : ℕ) (k : K) → ks' ≡ put_in below ks c k → standing ls' ks' ≡ standing ls ks
  stands_put below c k e = both (ap length e ∙ length-set ks c _)
