use Rattle.std.proofs.Common.{suc, ◌+◌, length, take, drop, Some, None, ap, ◌∙◌, sym, arith, add-one, take_all, length-drop}
use Rattle.lines.proofs.Splitting.{at, before_is, past_some, past_none}
use Rattle.lines.proofs.bytes.split_once.Goals as goal

pub returns-in_err-at : goal.returns-in_err-at
returns-in_err-at c =
    let bytes = c.args.bytes.now in
    let none = at _ bytes None (sym c.in_err-at.was ∙ c.first_at.ensures) in
    rw c.from_residual.ensures (before_is c.args.byte bytes ∙ ap (λ n. take n bytes) none ∙ take_all (length bytes) bytes (omega arith), past_none c.args.byte bytes none)

pub returns : goal.returns
returns c =
    let bytes = c.args.bytes.now in
    let at_byte = c.in_ok-at.at in
    let found = at _ bytes (Some at_byte) (sym c.in_ok-at.was ∙ c.first_at.ensures) in
    let rest = c.rest_after.ensures in (
      before_is c.args.byte bytes ∙ ap (λ n. take n bytes) found.0,
      past_some c.args.byte bytes (omega (arith, found)) ∙ ap (λ n. Some (drop n bytes)) (ap suc found.0 ∙ sym (add-one at_byte)) ∙ ap Some (sym rest),
      omega (arith, ap length rest, length-drop (at_byte + 1) bytes, found),
    )
