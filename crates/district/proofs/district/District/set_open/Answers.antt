use Rattle.std.proofs.Common.{◌≡◌, ◌<◌, cond, length, take, set, ap, ◌∙◌, arith, rules}
use Rattle.std.specs.Bool.{beq}
use Rattle.std.proofs.Math.Seq.{take-set-lt}
use Rattle.std.proofs.lemmas.List.{length-take-le, with_items_is}
use Rattle.district.specs.Model.{model_of, after_open, after_close}
use Rattle.district.proofs.Laying.{let_through}
use Rattle.district.proofs.Changing.{turned, with_marks, mark_read}
use Rattle.district.proofs.district.District.set_open.Goals as goal

pub returns-clause-writes : goal.returns-clause-writes
returns-clause-writes g c =
    let D = c.args.self.now in
    let m = model_of D in
    let i = c.in_ok-at.at in
    let run = let_through (length m.runs) c.args.run i _ c.in_ok-at.ensures in
    let room = D.room in
    let long : length (take D.laid D.runs.items) ≡ D.laid = length-take-le D.laid D.runs.items (omega arith) in
    let lt : i < D.laid = omega (arith, run.0, run.1) in
    let marks = with_items_is D.«open» c.set_mark.new.open (c.set_mark.auto.open ∙ search rules) ∙ (c.set_mark.ensures ∙ ap (λ xs. set xs i c.args.mark) c.deref_mut.ensures.value) in
    ap (with_marks m) (ap (take D.laid) marks ∙ take-set-lt D.laid D.«open».items i c.args.mark lt) ∙ turned m i c.args.mark (omega arith) (ap (λ o. beq o c.args.mark) (mark_read D.«open».items D.laid i c.index.result.now (let fit = D.marks in omega arith) lt c.index.ensures) ∙ c.if-index-mark.false) ∙ ap (λ n. cond c.args.mark (after_open m n) (after_close m n)) run.0
