use Rattle.std.proofs.Common.{◌+◌, drop, sym, ap, ◌∙◌, arith}
use Rattle.district.specs.Model.{model_of}
use Rattle.linked.specs.Lists.{all_laid}
use Rattle.linked.proofs.Listing.{laid_more, laid_end}
use Rattle.linked.proofs.calls.lay_all.Goals as goal

pub loop-street-preserved : goal.loop-street-preserved
loop-street-preserved c =
    let i = c.loop-street.street-index in
    ap (all_laid (drop (i + 1) c.args.streets.now)) c.lay.ensures.writes ∙ laid_more c.args.streets.now i _ (model_of c.loop-street.district) (omega arith) ∙ c.loop-street.invariant

pub returns : goal.returns
returns c = sym (laid_end c.args.streets.now c.loop-street.street-index (model_of c.loop-street.district) (omega arith)) ∙ c.loop-street.invariant
