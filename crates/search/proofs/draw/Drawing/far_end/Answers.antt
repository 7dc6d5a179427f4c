use Rattle.search.proofs.Drawings.{far_there, far_back}
use Rattle.search.proofs.draw.Drawing.far_end.Goals as goal

pub returns-then-run-v : goal.returns-then-run-v
returns-then-run-v g c =
    far_there c.args.self.now.runs.now c.args.number c.args.v c.index-self-number.result c.requires c.if-run-v.true

pub returns-else-run-v : goal.returns-else-run-v
returns-else-run-v g c =
    far_back c.args.self.now.runs.now c.args.number c.args.v c.index-self-number.result c.requires c.if-run-v.false
