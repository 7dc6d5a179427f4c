use Rattle.std.proofs.Common.{◌+◌, ◌<◌, arith}
use Rattle.heap.specs.Sifts.{Kept, LeastChild}
use Rattle.heap.proofs.Made.{swap_kept}
use Rattle.heap.proofs.Stands.{kept_trans}
use Rattle.heap.proofs.Steps.{chosen_least, sink_step, sink_leaf, sink_end}
use Rattle.heap.proofs.Heap.sink.Goals as goal

pub loop-at-preserved : goal.loop-at-preserved
loop-at-preserved g c =
    let h = c.loop-at.self in
    let next = c.swap.new.self in
    let at = c.loop-at.at in
    let down = c.child-next.result in
    let inv = c.loop-at.invariant in
    let made = c.swap.ensures in
    let room : at + at + 1 < h.len = omega (arith, c.loop-at-test.true) in
    let child : LeastChild g.K.Cost.kind.below h at down = chosen_least g.met.K.Cost.laws h at down room c.child-next.ensures in
    let here : at < h.len = omega (arith, room) in
    let kept : Kept h next = swap_kept h next at down here child.inside made in (
      sink_step g.met.K.Cost.laws h next at down child made.coded kept c.if-not-precedes.ensures inv.0,
      kept_trans c.args.self.now h next inv.1 kept,
    )

pub returns-after-loop-at : goal.returns-after-loop-at
returns-after-loop-at g c =
    let inv = c.loop-at.invariant in
    record {
      good = sink_leaf g.met.K.Cost.laws c.loop-at.self c.loop-at.at inv.0 c.loop-at-test.false;
      kept = inv.1;
    }

pub returns-then-not-precedes : goal.returns-then-not-precedes
returns-then-not-precedes g c =
    let h = c.loop-at.self in
    let at = c.loop-at.at in
    let inv = c.loop-at.invariant in
    let room : at + at + 1 < h.len = omega (arith, c.loop-at-test.true) in
    record {
      good = sink_end g.met.K.Cost.laws h at c.child-next.result inv.0 (chosen_least g.met.K.Cost.laws h at c.child-next.result room c.child-next.ensures) c.if-not-precedes.ensures;
      kept = inv.1;
    }
