use Rattle.std.proofs.Common.{[], ◌∷◌, ◌++◌, map, take, vec_items, sym, ap, ◌∙◌}
use Rattle.std.proofs.lemmas.Result.{IfOk-from_err}
use Rattle.std.proofs.lemmas.List.{map_push, map_more, take_all}
use Rattle.requests.specs.Requests.{shape, asked_of}
use Rattle.requests.proofs.requests.turns_for.Goals as goal

pub returns-in_err-turn : goal.returns-in_err-turn
returns-in_err-turn g c = IfOk-from_err _ _ c.from_residual.ensures.0

pub returns-in_err-push : goal.returns-in_err-push
returns-in_err-push g c = IfOk-from_err _ _ c.from_residual-in_err-push.ensures.0

pub loop-request-preserved : goal.loop-request-preserved
loop-request-preserved g c =
    let rs = c.args.requests.now in
    let f = asked_of c.args.tools in
    let i = c.loop-request.request-index in
    let x = c.request-item.result in
    let turn = c.in_ok-turn.turn in
    let before = vec_items c.loop-request.turns in
    ap (map shape) c.in_ok-push.ensures.items ∙ map_push shape before turn ∙ ap (λ xs. xs ++ shape turn ∷ []) c.loop-request.invariant
    ∙ ap (λ y. map f (take i rs) ++ y ∷ []) (c.in_ok-turn.ensures ∙ ap f c.request-item.is) ∙ sym (map_more f rs i x c.loop-request-test.true)

pub returns : goal.returns
returns g c = c.loop-request.invariant ∙ ap (map (asked_of c.args.tools)) (take_all _ _ c.loop-request-test.false)
