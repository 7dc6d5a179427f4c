use Rattle.std.proofs.Common.{subst}
use Rattle.network.specs.Layouts.{Layout}
use Rattle.network.specs.declared.money.Money.{Money}
use Rattle.network.specs.Money.{money_kind}
use Rattle.district.specs.Model.{layout_of}
use Rattle.labelling.specs.Desks.{tables_on}
use Rattle.heap.specs.Heaps.{heap_waits}
use Rattle.farthest.specs.Distances.{Far}
use Rattle.farthest.specs.Memories.{bound_of, room_for}
use Rattle.replay.specs.Calls.{offered}
use Rattle.replay.specs.Sequence.{Asked}
use Rattle.replay.proofs.Trying.{asked_by}
use Rattle.linked.proofs.solve.plan_on.Goals as goal

pub returns : goal.returns
returns c =
    let l = layout_of c.view-view.result in
    let row = c.args.row.now in
    let row' = c.plan.new.answer in
    let after = c.plan.new.desk in
    let lent = offered heap_waits room_for c.args.desk.now in
    let asked = asked_by money_kind (Far money_kind) lent c.args.limit c.plan.result l row row' (bound_of money_kind after.estimator) (tables_on c.args.desk.now) (tables_on after) (heap_waits after.queue) _ _ c.view-view.ensures.priced c.plan.ensures.plans in
    subst (λ (x : Layout Money). Asked money_kind (Far money_kind) lent x c.args.limit row row' c.plan.result) c.view-view.ensures.shows asked
