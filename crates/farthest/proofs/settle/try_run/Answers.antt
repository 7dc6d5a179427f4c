use Rattle.std.proofs.Common.{◌||◌, ◌∙◌}
use Rattle.std.proofs.lemmas.Bool.{or_parts}
use Rattle.farthest.proofs.Steps.{run_more}
use Rattle.farthest.proofs.settle.try_run.Goals as goal

pub loop-j-preserved : goal.loop-j-preserved
loop-j-preserved g c = (
  run_more g.K.Cost.kind c.args.run.now c.loop-j.j c.args.ds.now c.loop-j.ds c.relax-there.new.ds c.relax-back.new.ds c.loop-j.invariant.0 c.relax-there.ensures.after c.relax-back.ensures.after,
  λ h. let p = or_parts c.loop-j.changed (c.relax-there.result || c.relax-back.result) h in
      let q = or_parts c.relax-there.result c.relax-back.result p.1 in
      c.relax-back.ensures.still q.1 ∙ (c.relax-there.ensures.still q.0 ∙ c.loop-j.invariant.1 p.0),
)
