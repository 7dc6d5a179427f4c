use Rattle.std.proofs.Common.{◌+◌, drop, sym, ap, ◌∙◌, arith}
use Rattle.district.specs.Model.{model_of}
use Rattle.linked.specs.Lists.{all_marked}
use Rattle.linked.proofs.Listing.{marked_more, marked_end}
use Rattle.linked.proofs.calls.mark_all.Goals as goal

pub loop-outlet-preserved : goal.loop-outlet-preserved
loop-outlet-preserved c =
    let i = c.loop-outlet.outlet-index in
    ap (all_marked (drop (i + 1) c.args.outlets.now)) c.mark.ensures.writes ∙ marked_more c.args.outlets.now i _ (model_of c.loop-outlet.district) (omega arith) ∙ c.loop-outlet.invariant

pub returns : goal.returns
returns c = sym (marked_end c.args.outlets.now c.loop-outlet.outlet-index (model_of c.loop-outlet.district) (omega arith)) ∙ c.loop-outlet.invariant
