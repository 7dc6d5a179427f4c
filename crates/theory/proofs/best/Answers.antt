use Rattle.theory.proofs.Optimal.{none_cheaper, goal_joins, goal_costs}
use Rattle.theory.proofs.best.Goals as goal

pub returns : goal.returns
returns g c = λ l some t inv c settled. (
  (λ S o joins. none_cheaper g.met.K.Cost.laws some inv c settled S joins),
  (λ d S o s. (goal_joins g.met.K.Cost.laws some inv d S s, goal_costs g.met.K.Cost.laws some inv c settled d S o s)),
)
