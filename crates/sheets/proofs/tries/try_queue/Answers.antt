use Rattle.std.proofs.Common.{length, refl, ◌∙◌}
use Rattle.district.specs.Model.{room_of}
use Rattle.sheets.proofs.Trying.{by_silent, by_farthest, by_larger, measured}
use Rattle.sheets.proofs.tries.try_queue.Goals as goal

pub returns-in-Silent : goal.returns-in-Silent
returns-in-Silent g c =
    measured g.Q.Cost.Cost.kind c.args.room.labels c.args.room.labels (length (g.Q.Queue.waiting c.args.queue.now)) c.args.room.distances c.args.junctions (room_of c.args.memory) c.args.turns.now _ c.try_both.result c.args.estimator
    _ _ _ _ (c.as_mut_slice-labels.ensures.len ∙ c.in_ok-labels.ensures.len) (c.as_mut_slice-ways.ensures.len ∙ c.in_ok-ways.ensures.len) refl refl
    (by_silent g.Q.Cost.Cost.kind _ _ _ _ c.args.junctions (room_of c.args.memory) c.args.turns.now _ c.try_both.result c.args.estimator c.in-Silent.is c.try_both.ensures)

pub returns-in-Farthest : goal.returns-in-Farthest
returns-in-Farthest g c =
    measured g.Q.Cost.Cost.kind c.args.room.labels c.args.room.labels (length (g.Q.Queue.waiting c.args.queue.now)) c.args.room.distances c.args.junctions (room_of c.args.memory) c.args.turns.now _ c.try_both-in-Farthest.result c.args.estimator
    _ _ _ _ (c.as_mut_slice-labels.ensures.len ∙ c.in_ok-labels.ensures.len) (c.as_mut_slice-ways.ensures.len ∙ c.in_ok-ways.ensures.len) refl (c.deref_mut.ensures.len ∙ c.in_ok-distances.ensures.len)
    (by_farthest g.Q.Cost.Cost.kind _ _ _ _ c.args.junctions (room_of c.args.memory) c.args.turns.now _ c.try_both-in-Farthest.result c.args.estimator _ c.in-Farthest.is c.over-estimator.ensures.room c.try_both-in-Farthest.ensures)

pub returns : goal.returns
returns g c =
    measured g.Q.Cost.Cost.kind c.args.room.labels c.args.room.labels (length (g.Q.Queue.waiting c.args.queue.now)) c.args.room.distances c.args.junctions (room_of c.args.memory) c.args.turns.now _ c.try_both-in-Larger.result c.args.estimator
    _ _ _ _ (c.as_mut_slice-labels.ensures.len ∙ c.in_ok-labels.ensures.len) (c.as_mut_slice-ways.ensures.len ∙ c.in_ok-ways.ensures.len) refl (c.deref_mut-in-Larger.ensures.len ∙ c.in_ok-distances.ensures.len)
    (by_larger g.Q.Cost.Cost.kind _ _ _ _ c.args.junctions (room_of c.args.memory) c.args.turns.now _ c.try_both-in-Larger.result c.args.estimator _ c.in-Larger.is c.over.ensures.room c.try_both-in-Larger.ensures)
