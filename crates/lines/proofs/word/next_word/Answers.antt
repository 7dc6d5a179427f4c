use Rattle.std.proofs.Common.{◌≡◌, ◌<◌, ◌∷◌, drop, take, length, Some, None, ap, ◌∙◌, sym, arith, unwrap_or, subst, length-drop}
use Rattle.lines.specs.Words.{words, blank}
use Rattle.lines.proofs.Splitting.{at, at_or_len, to_word, no_word, worded, begins, first_word, word_end}
use Rattle.lines.proofs.word.next_word.Goals as goal

pub returns-in_err-word_start : goal.returns-in_err-word_start
returns-in_err-word_start c = rw c.from_residual.ensures (no_word _ (at _ c.args.line.now None (sym c.in_err-word_start.was ∙ c.word_start.ensures)))

pub returns : goal.returns
returns c =
    let line = c.args.line.now in
    let rest = c.split_at.result.1.now in
    let start = at _ line (Some c.in_ok-word_start.field-0) (sym c.in_ok-word_start.was ∙ c.word_start.ensures) in
    let from : rest ≡ drop (first_word line) line = c.split_at.ensures.back ∙ ap (λ n. drop n line) (sym start.0) in
    let end : word_end rest ≡ c.unwrap_or.result = sym (c.unwrap_or.ensures ∙ ap (λ o. unwrap_or o (length rest)) c.word_end.ensures ∙ at_or_len blank rest) in
    let some : 0 < word_end rest = subst (λ l. 0 < word_end l) (sym from) (begins line (omega (arith, start))) in
    let whole = sym (to_word line) ∙ sym (ap words from) ∙ worded rest some ∙ ap (λ n. take n rest ∷ words (drop n rest)) end
    ∙ ap (λ w. w ∷ words (drop c.unwrap_or.result rest)) (sym c.split_at-2.ensures.front) ∙ ap (λ l. c.split_at-2.result.0.now ∷ words l) (sym c.split_at-2.ensures.back) in
    let shorter : length c.split_at-2.result.1.now < length line = omega (arith, ap length c.split_at-2.ensures.back, length-drop c.unwrap_or.result rest, ap length from, length-drop (first_word line) line, some, end, start) in
    (whole, shorter)
