use Rattle.theory.proofs.Lightness.{set_light, cheapest_light}
use Rattle.theory.proofs.light.Goals as goal

pub returns : goal.returns
returns g c = λ l priced. (set_light g.met.K.Cost.laws l priced, cheapest_light g.met.K.Cost.laws l priced)
