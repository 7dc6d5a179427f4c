use Rattle.std.proofs.Common.{◌<◌, length, sym, subst}
use Rattle.search.proofs.Drawings.{code_inside}
use Rattle.search.proofs.draw.Drawing.way_back.Goals as goal

pub bounds-self-code : goal.bounds-self-code
bounds-self-code g c =
    subst (λ n. n < length c.args.self.now.ways.now) (sym c.code.ensures)
    (code_inside c.args.self.now.size c.args.self.now.runs.now c.args.self.now.ways.now c.args.v c.args.set c.requires c.args.self.now.long)
