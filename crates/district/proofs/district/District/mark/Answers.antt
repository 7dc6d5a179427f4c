use Rattle.std.proofs.Common.{sym, ap, ◌∙◌, subst, arith}
use Rattle.std.proofs.lemmas.Bool.Decides.{nat_tests}
use Rattle.std.specs.List.Sorted.{IsStrictlyIncreasing}
use Rattle.district.specs.Bounds.{AllBelow}
use Rattle.district.specs.Model.{model_of, with_outlets, mark_answer, after_mark}
use Rattle.district.proofs.Laying.{let_through}
use Rattle.district.proofs.Outlets.{holds, lacks, ins_at, below_more, rising_more, is_marked, too_many, goes_in}
use Rattle.district.proofs.district.District.mark.Goals as goal

pub returns-in-Ok : goal.returns-in-Ok
returns-in-Ok g c =
    let m = model_of c.args.self.now in
    let o = c.in_ok-outlet.outlet in
    let j = let_through m.junctions c.args.junction o _ c.in_ok-outlet.ensures in
    let h = is_marked m o (omega (arith, j.0, j.1)) (holds m.outlets o _ c.in-Ok.ensures) in
    record { answers = sym h.0 ∙ ap (mark_answer m) j.0; writes = sym h.1 ∙ ap (after_mark m) j.0 }

pub returns-in-Err : goal.returns-in-Err
returns-in-Err g c =
    let m = model_of c.args.self.now in
    let o = c.in_ok-outlet.outlet in
    let j = let_through m.junctions c.args.junction o _ c.in_ok-outlet.ensures in
    let h = too_many m o (omega (arith, j.0, j.1)) (lacks m.outlets o _ c.in-Err.ensures) (let v = c.if-is_full.ensures.value in grind (arith, nat_tests)) in
    record { answers = sym h.0 ∙ ap (mark_answer m) j.0; writes = sym h.1 ∙ ap (after_mark m) j.0 }

pub returns-in-Err-2 : goal.returns-in-Err-2
returns-in-Err-2 g c =
    let m = model_of c.args.self.now in
    let twelve = c.args.self.now.twelve in
    let o = c.in_ok-outlet.outlet in
    let j = let_through m.junctions c.args.junction o _ c.in_ok-outlet.ensures in
    let s = c.in-Err.ensures in
    let h = goes_in m o (omega (arith, j.0, j.1)) (lacks m.outlets o _ s) (let v = c.if-is_full.ensures.value in grind (arith, nat_tests)) in
    record {
      answers = sym h.0 ∙ ap (mark_answer m) j.0;
      writes = ap (with_outlets m) (c.take_in.ensures ∙ sym (ins_at m.outlets o _ s)) ∙ (sym h.1 ∙ ap (after_mark m) j.0);
    }

pub invariant_of-self-clause-rising : goal.invariant_of-self-clause-rising
invariant_of-self-clause-rising g c =
    let D = c.args.self.now in
    subst IsStrictlyIncreasing (sym c.take_in.ensures) (rising_more D.outlets.items c.in_ok-outlet.outlet _ c.in-Err.ensures D.rising)

pub invariant_of-self-clause-inside : goal.invariant_of-self-clause-inside
invariant_of-self-clause-inside g c =
    let D = c.args.self.now in
    let o = c.in_ok-outlet.outlet in
    let j = let_through D.junctions c.args.junction o _ c.in_ok-outlet.ensures in
    subst (AllBelow D.junctions) (sym c.take_in.ensures) (below_more D.outlets.items o _ c.in-Err.ensures D.junctions (omega (arith, j.0, j.1)) D.inside)
