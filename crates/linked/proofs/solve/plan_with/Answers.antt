use Rattle.std.proofs.Common.{◌≡◌, ℕ, Bool, min, length, subst, ap, ◌∙◌, arith, rules, Ok, Err}
use lib.ListN.{length-replicate}
use Rattle.std.proofs.lemmas.Result.{err_from_is_err_and}
use Rattle.network.specs.Money.{money_kind}
use Rattle.district.specs.Model.{model_of, seen}
use Rattle.farthest.specs.Distances.{Far}
use Rattle.farthest.specs.Memories.{has_room}
use Rattle.replay.specs.Calls.{Desk, desk}
use Rattle.replay.specs.Sequence.{Asked}
use Rattle.linked.specs.Lists.{desk_of}
use Rattle.linked.proofs.solve.plan_with.Goals as goal

-- a desk whose rows have so many places
laid_out : (n l w k c p q : ℕ) (fits : ℕ → ℕ → Bool) → l ≡ n → w ≡ n → k ≡ n → c ≡ n → p ≡ n → q ≡ min 4294967295 (min k (min c p)) → fits ≡ has_room 12288 → desk l w q fits ≡ desk_of n
laid_out n l w k c p q fits el ew ek ec ep eq ef =
    let labels : min l w ≡ n = omega arith in
    let queue : q ≡ min 4294967295 n = omega arith in
    λ i. record { labels = labels i; queue = queue i; fits = ef i }

pub returns : goal.returns
returns c =
    let n = c.args.places in
    let held = length-replicate (min 4294967295 (min (length c.deref_mut-3.result.now) (min (length c.deref_mut-4.result.now) (length c.deref_mut-5.result.now)))) _ in
    let laid = laid_out n _ _ _ _ _ _ _ (c.deref_mut.ensures.len ∙ c.in_ok-labels.ensures.len) (c.deref_mut-2.ensures.len ∙ c.in_ok-ways.ensures.len) (c.deref_mut-3.ensures.len ∙ c.in_ok-keys.ensures.len) (c.deref_mut-4.ensures.len ∙ c.in_ok-codes.ensures.len) (c.deref_mut-5.ensures.len ∙ c.in_ok-by_code.ensures.len)
    (ap length c.over.ensures.waits ∙ held) (c.over-2.ensures.room ∙ ap has_room (c.deref_mut-6.ensures.len ∙ c.in_ok-distances.ensures.len)) in
    subst (λ (x : Desk). Asked money_kind (Far money_kind) x (seen (model_of c.args.district.now)) c.args.limit c.args.row.now c.plan_on.new.row (Ok c.in_ok-plan.plan)) laid c.in_ok-plan.ensures

pub returns-in_err-plan : goal.returns-in_err-plan
returns-in_err-plan c =
    let n = c.args.places in
    let held = length-replicate (min 4294967295 (min (length c.deref_mut-3.result.now) (min (length c.deref_mut-4.result.now) (length c.deref_mut-5.result.now)))) _ in
    let laid = laid_out n _ _ _ _ _ _ _ (c.deref_mut.ensures.len ∙ c.in_ok-labels.ensures.len) (c.deref_mut-2.ensures.len ∙ c.in_ok-ways.ensures.len) (c.deref_mut-3.ensures.len ∙ c.in_ok-keys.ensures.len) (c.deref_mut-4.ensures.len ∙ c.in_ok-codes.ensures.len) (c.deref_mut-5.ensures.len ∙ c.in_ok-by_code.ensures.len)
    (ap length c.over.ensures.waits ∙ held) (c.over-2.ensures.room ∙ ap has_room (c.deref_mut-6.ensures.len ∙ c.in_ok-distances.ensures.len)) in
    let asked = subst (λ (x : Desk). Asked money_kind (Far money_kind) x (seen (model_of c.args.district.now)) c.args.limit c.args.row.now c.plan_on.new.row (Err c.in_err-plan.field-0.0)) laid c.in_err-plan.ensures in
    let refused = err_from_is_err_and c.from_residual-in_err-plan.result c.from_residual-in_err-plan.ensures.1 in
    rw (refused.1, refused.2) (search (rules, asked))
