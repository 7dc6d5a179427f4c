use Rattle.std.proofs.Common.{sym, ap, ◌∙◌, subst, arith}
use Rattle.std.specs.List.Sorted.{IsStrictlyIncreasing}
use Rattle.district.specs.Bounds.{AllBelow}
use Rattle.district.specs.Model.{model_of, with_outlets, unmark_answer, after_unmark}
use Rattle.district.proofs.Laying.{let_through}
use Rattle.district.proofs.Outlets.{holds, lacks, del_at, below_less, rising_less, not_marked, goes_out}
use Rattle.district.proofs.district.District.unmark.Goals as goal

pub returns-in-Ok : goal.returns-in-Ok
returns-in-Ok g c =
    let m = model_of c.args.self.now in
    let o = c.in_ok-outlet.outlet in
    let j = let_through m.junctions c.args.junction o _ c.in_ok-outlet.ensures in
    let s = c.in-Ok.ensures in
    let h = goes_out m o (omega (arith, j.0, j.1)) (holds m.outlets o _ s) in
    record {
      answers = sym h.0 ∙ ap (unmark_answer m) j.0;
      writes = ap (with_outlets m) (c.take_out.ensures ∙ sym (del_at m.outlets o _ s c.args.self.now.rising)) ∙ (sym h.1 ∙ ap (after_unmark m) j.0);
    }

pub returns-in-Err : goal.returns-in-Err
returns-in-Err g c =
    let m = model_of c.args.self.now in
    let o = c.in_ok-outlet.outlet in
    let j = let_through m.junctions c.args.junction o _ c.in_ok-outlet.ensures in
    let h = not_marked m o (omega (arith, j.0, j.1)) (lacks m.outlets o _ c.in-Err.ensures) in
    record { answers = sym h.0 ∙ ap (unmark_answer m) j.0; writes = sym h.1 ∙ ap (after_unmark m) j.0 }

pub invariant_of-self-clause-rising : goal.invariant_of-self-clause-rising
invariant_of-self-clause-rising g c =
    let D = c.args.self.now in
    subst IsStrictlyIncreasing (sym c.take_out.ensures) (rising_less D.outlets.items c.in_ok-outlet.outlet _ c.in-Ok.ensures D.rising)

pub invariant_of-self-clause-inside : goal.invariant_of-self-clause-inside
invariant_of-self-clause-inside g c =
    let D = c.args.self.now in
    subst (AllBelow D.junctions) (sym c.take_out.ensures) (below_less D.outlets.items c.in_ok-outlet.outlet _ c.in-Ok.ensures D.junctions D.inside)
