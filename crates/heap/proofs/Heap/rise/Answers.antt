use Rattle.std.proofs.Common.{◌<◌, false, subst, arith}
use Rattle.heap.specs.Sifts.{Kept, Tells}
use Rattle.heap.proofs.Made.{swap_kept}
use Rattle.heap.proofs.Stands.{kept_trans}
use Rattle.heap.proofs.Steps.{at_place, rise_by, rise_end}
use Rattle.heap.proofs.Heap.rise.Goals as goal

pub loop-at-preserved : goal.loop-at-preserved
loop-at-preserved g c =
    let h = c.loop-at.self in
    let next = c.swap.new.self in
    let at = c.loop-at.at in
    let up = c.place_over-up.result in
    let inv = c.loop-at.invariant in
    let made = c.swap.ensures in
    let over : up < h.len = omega (arith, inv.0, c.loop-at-test.true, c.place_over-up.ensures) in
    let kept : Kept h next = swap_kept h next at up inv.0 over made in (
      omega (arith, kept.lens, over),
      rise_by g.met.K.Cost.laws h next at up c.place_over-up.ensures c.loop-at-test.true inv.0 made.coded kept c.if-not-precedes.ensures inv.1,
      kept_trans c.args.self.now h next inv.2 kept,
    )

pub returns-after-loop-at : goal.returns-after-loop-at
returns-after-loop-at g c =
    let inv = c.loop-at.invariant in
    record {
      good = rise_end g.met.K.Cost.laws c.loop-at.self c.loop-at.at inv.1 (λ pos. absurd (omega (arith, pos, c.loop-at-test.false)));
      kept = inv.2;
    }

pub returns-then-not-precedes : goal.returns-then-not-precedes
returns-then-not-precedes g c =
    let h = c.loop-at.self in
    let inv = c.loop-at.invariant in
    record {
      good = rise_end g.met.K.Cost.laws h c.loop-at.at inv.1
          (λ pos. subst (λ u. Tells g.K.Cost.kind.below h.keys.now (at_place h c.loop-at.at) (at_place h u) false) c.place_over-up.ensures c.if-not-precedes.ensures);
      kept = inv.2;
    }
