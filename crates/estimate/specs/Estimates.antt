-- What an estimator owes, and the estimator that always says zero. Assumes nothing.
use Rattle.std.specs.Prelude.{◌≡◌, ℕ, ◌≤◌, Bool, cond, length, Ok, Err, Result}
use Rattle.network.specs.Costs.{Kind}
use Rattle.network.specs.Layouts.{Layout, Priced}
use Rattle.network.specs.Bounds.{sets, Lawful}
use Rattle.network.specs.declared.refusal.Refusal.{Refusal}
use Rattle.network.specs.declared.refusal.Refusal.TheVariants.{EstimatorFit}

-- does the estimator fit the district?
abbrev pub prepare_answer : {K : Type 0} → (ℕ → ℕ → Bool) → Layout K → Result (Unit {0}) Refusal
prepare_answer within l = cond (within l.junctions (length l.outlets)) (Ok tt) (Err EstimatorFit)

-- a bound after `prepare`: lawful where the questions let in the costs, and zero for what the district lacks
pub record Prepared {K : Type 0} (kind : Kind K) (l : Layout K) (bound : ℕ → ℕ → K) : Type 0 where
  pub lawful : Priced kind l.runs → Lawful kind l bound
  pub no_junction : (v I : ℕ) → l.junctions ≤ v → bound v I ≡ kind.zero
  pub no_set : (v I : ℕ) → sets l ≤ I → bound v I ≡ kind.zero
  pub no_outlet : (v I : ℕ) → length l.outlets ≡ 0 → bound v I ≡ kind.zero

-- zero everywhere
abbrev pub silent_bound : {K : Type 0} → Kind K → ℕ → ℕ → K
silent_bound kind v I = kind.zero

-- the bound is zero everywhere
abbrev pub Silence : {K : Type 0} → Kind K → (ℕ → ℕ → K) → Type 0
Silence kind bound = (v I : ℕ) → bound v I ≡ kind.zero
