use Rattle.std.proofs.Common.{◌+◌, ◌<◌, length, drop, sym, ap, ◌∙◌, arith, false-eqb}
use Rattle.std.proofs.lemmas.List.{at_drop_more, at_drop_all}
use Rattle.lines.specs.Reading.{bind}
use Rattle.lines.proofs.Counting.{read_on, read_all}
use Rattle.lines.proofs.digits.number.Goals as goal

pub returns-in_err-n : goal.returns-in_err-n
returns-in_err-n c =
    let word = c.args.word.now in
    let i = c.loop-b.b-index in
    let n = c.loop-b.n in
    let some : 0 < length word = omega (arith, false-eqb _ 0 c.if-is_empty.ensures) in
    let step = at_drop_more (λ l. read_on l n) word i 0 c.loop-b-test.true in
    let stops = ap (λ o. bind o (read_on (drop (i + 1) word))) (sym c.with_digit.ensures ∙ c.in_err-n.was) in
    c.from_residual.ensures ∙ sym (step ∙ stops) ∙ c.loop-b.invariant ∙ read_all word some

pub loop-b-preserved : goal.loop-b-preserved
loop-b-preserved c =
    let word = c.args.word.now in
    let i = c.loop-b.b-index in
    let n = c.loop-b.n in
    let step = at_drop_more (λ l. read_on l n) word i 0 c.loop-b-test.true in
    let goes = ap (λ o. bind o (read_on (drop (i + 1) word))) (sym c.with_digit.ensures ∙ c.in_ok-n.was) in
    sym (step ∙ goes) ∙ c.loop-b.invariant

pub returns : goal.returns
returns c =
    let word = c.args.word.now in
    let some : 0 < length word = omega (arith, false-eqb _ 0 c.if-is_empty.ensures) in
    sym (at_drop_all (λ l. read_on l c.loop-b.n) word c.loop-b.b-index c.loop-b-test.false) ∙ c.loop-b.invariant ∙ read_all word some
