use Rattle.std.proofs.Common.{get_or, sym, subst, rules}
use Rattle.district.specs.Model.{model_of}
use Rattle.search.proofs.Standing.{stands_on}
use Rattle.replay.specs.Calls.{Desk}
use Rattle.replay.specs.Sequence.{Answered, Tried}
use Rattle.replay.proofs.Left.{step, finish}
use Rattle.replay.proofs.Trying.{answered_by, same_offered}
use Rattle.replay.proofs.sequence.try_all.Goals as goal

pub loop-i-preserved : goal.loop-i-preserved
loop-i-preserved g c =
    let kind = g.Q.Cost.Cost.kind in
    let makes = g.E.Estimator.makes in
    let I = c.loop-i.invariant in
    let m = model_of c.loop-i.district in
    let d = c.index-turns-i.result in
    let t = get_or c.loop-i.turns c.loop-i.i d in
    let row = c.deref_mut.result.now in
    let same = same_offered g.Q.Queue.lender g.Q.Queue.waiting g.E.Estimator.lender g.E.Estimator.within c.args.desk.now c.loop-i.desk I.stands in
    let tried = subst (λ (x : Desk). Tried kind makes x m row c.try_call-answer.new.row c.try_call-answer.result t.call) same c.try_call-answer.ensures.answers in
    let answers = answered_by kind makes _ m t row c.try_call-answer.new.row c.try_call-answer.result c.deref_mut.ensures.value c.try_call-answer.auto.row t.call tried in
    let noted = subst (Answered kind makes _ m t) (sym c.note.ensures) answers in
    record {
      stands = stands_on g.Q.Queue.lender g.Q.Queue.waiting g.E.Estimator.lender g.E.Estimator.within c.args.desk.now c.loop-i.desk c.try_call-answer.new.desk I.stands c.try_call-answer.ensures.stands;
      left = step kind makes _ (model_of c.args.district.now) c.args.turns.now m (model_of c.try_call-answer.new.district) c.loop-i.i c.loop-i.turns d _ (search rules) noted c.try_call-answer.ensures.writes I.left;
    }

pub returns : goal.returns
returns g c =
    let I = c.loop-i.invariant in
    record {
      replays = finish g.Q.Cost.Cost.kind g.E.Estimator.makes _ (model_of c.args.district.now) c.args.turns.now (model_of c.loop-i.district) c.loop-i.i c.loop-i.turns (search rules) I.left;
      stands = I.stands;
    }
