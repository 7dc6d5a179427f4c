use Rattle.std.proofs.Common.{unwrap_or, sym, ap, ◌∙◌}
use Rattle.network.specs.Costs.{greater}
use Rattle.farthest.specs.Memories.{in_row}
use Rattle.farthest.proofs.Steps.{far_skip, far_more}
use Rattle.farthest.proofs.farthest.calls.look.Goals as goal
use Rattle.farthest.proofs.farthest.calls.look.Goals.{then-not-is_in, else-not-is_in}

pub loop-j-preserved : goal.loop-j-preserved
loop-j-preserved g c =
    let kind = g.K.Cost.kind in
    elim c.if-not-is_in.branch [
      | then-not-is_in w ↦
          far_more kind (in_row c.args.ds.now) c.args.v c.args.set c.loop-j.j c.loop-j.best _ c.loop-j.invariant
          (sym c.is_in.ensures ∙ w.if-not-is_in.true)
          (w.best-is ∙ (w.greater_of-best.ensures ∙ ap (λ o. greater kind c.loop-j.best (unwrap_or o kind.zero)) w.place_at.ensures))
      | else-not-is_in w ↦
          far_skip kind (in_row c.args.ds.now) c.args.v c.args.set c.loop-j.j c.loop-j.best _ c.loop-j.invariant (sym c.is_in.ensures ∙ w.if-not-is_in.false) w.best-is
    ]
