use Rattle.district.proofs.Outlets.{placed}
use Rattle.district.proofs.district.District.place.Goals as goal

pub returns : goal.returns
returns g c = placed c.args.self.now.outlets.items c.deref.result.now c.args.outlet _ c.deref.ensures.0 c.args.self.now.rising c.place_of.ensures
