use Rattle.std.proofs.Common.{length, sym, ap, ◌∙◌}
use lib.ListN.{length-replicate}
use Rattle.district.specs.Model.{room_of}
use Rattle.sheets.specs.Sheets.{queue_room}
use Rattle.sheets.proofs.Trying.{chosen, held_all}
use Rattle.sheets.proofs.tries.try_tools.Goals as goal

pub returns-in_ok-waiting-in-Row : goal.returns-in_ok-waiting-in-Row
returns-in_ok-waiting-in-Row g c =
    chosen g.K.Cost.kind c.args.tools c.args.room.labels c.args.room.distances c.args.junctions (room_of c.args.memory) c.args.turns.now _ _ _
    (ap length c.over-queue.ensures.waits ∙ length-replicate _ _ ∙ c.deref_mut.ensures.len ∙ c.in_ok-waiting-in-Row.ensures.len ∙ ap (λ q. queue_room q c.args.room.labels) (sym c.in-Row.is))
    c.try_queue.ensures

pub returns-in_ok-places-in-Heap : goal.returns-in_ok-places-in-Heap
returns-in_ok-places-in-Heap g c =
    let held = held_all c.args.room.labels _ _ _ (c.deref_mut-in-Heap.ensures.len ∙ c.in_ok-keys-in-Heap.ensures.len) (c.deref_mut-in-Heap-2.ensures.len ∙ c.in_ok-codes-in-Heap.ensures.len) (c.deref_mut-in-Heap-3.ensures.len ∙ c.in_ok-places-in-Heap.ensures.len) in
    chosen g.K.Cost.kind c.args.tools c.args.room.labels c.args.room.distances c.args.junctions (room_of c.args.memory) c.args.turns.now _ _ _
    (ap length c.over-queue-in-Heap.ensures.waits ∙ length-replicate _ _ ∙ held ∙ ap (λ q. queue_room q c.args.room.labels) (sym c.in-Heap.is))
    c.try_queue-in-Heap.ensures
