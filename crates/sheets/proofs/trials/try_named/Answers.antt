use Rattle.std.proofs.Common.{vec_items, subst}
use Rattle.commands.specs.declared.command.QueueChoice.TheVariants.{Row}
use Rattle.sheets.specs.Trials.{GrownFor}
use Rattle.sheets.proofs.Reporting.{by_both}
use Rattle.sheets.proofs.trials.try_named.Goals as goal

pub returns : goal.returns
returns g c =
    let kind = g.K.Cost.kind in
    let s = c.args.sheet.now in
    let first = vec_items c.add_queue.new.trials in
    by_both kind s first _ (subst (λ ts. GrownFor kind s Row ts first) c.new-trials.ensures.items c.in_ok-add_queue.ensures) c.in_ok-add_queue-2.ensures
