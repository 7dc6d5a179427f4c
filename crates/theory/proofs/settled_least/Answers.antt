use Rattle.theory.proofs.Optimal.{settled_cheapest, cheapest_least}
use Rattle.theory.proofs.settled_least.Goals as goal

pub returns : goal.returns
returns g c = λ l t inv v I c s d.
    (let h = settled_cheapest g.met.K.Cost.laws inv v I c s d in (h, cheapest_least g.met.K.Cost.laws h))
