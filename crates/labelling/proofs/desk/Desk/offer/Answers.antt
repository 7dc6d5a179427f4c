use Rattle.std.proofs.Common.{sym, ap, ◌∙◌, subst}
use Rattle.queue.specs.Waits.{put_in}
use Rattle.labelling.specs.declared.desk.Desk.{Desk}
use Rattle.labelling.specs.Tables.{rule}
use Rattle.labelling.specs.Offers.{written}
use Rattle.labelling.specs.Desks.{tables_on}
use Rattle.labelling.proofs.Standing.{stands_put}
use Rattle.labelling.proofs.Desks.{kept_by}
use Rattle.labelling.proofs.Offering.{offer_left, offer_kept, offer_ready}
use Rattle.labelling.proofs.desk.Desk.offer.Goals as goal

pub put-requires : goal.put-requires
put-requires g c = subst g.Q.Queue.ok (sym (ap (λ x. x.queue) c.write.ensures)) c.requires.fit.good

pub returns-in-Some : goal.returns-in-Some
returns-in-Some g c =
    let d = c.args.self.now in
    let q = c.put.new.self in
    let same = ap (λ x. x.queue) c.write.ensures in
    let r = rule g.Q.Cost.Cost.kind (g.E.Estimator.bound d.estimator) c.args.size in
    let t = tables_on d in
    let ks = g.Q.Queue.waiting d.queue in
    let h = c.if-improves_on.ensures r.bound r.size in
    let waits = c.put.ensures.waits ∙ ap (λ x. put_in r.kind.below (g.Q.Queue.waiting x) c.code-code.result c.in-Some.key) same in
    record {
      kept = kept_by r g.Q.Queue.waiting g.Q.Queue.ok g.Q.Queue.lender d _ q (written t c.code-code.result c.args.to.cost c.args.back) (ap (λ (x : Desk _ _ _). record x { queue = q }) c.write.ensures)
          (offer_ready r g.met.Q.Cost.Cost.laws t c.args.to c.args.back c.code-code.result c.code-code.ensures c.estimate.result c.in-Some.key c.estimate.ensures c.in-Some.ensures h ks _ c.requires.junction c.requires.outlets waits c.requires.fit.ready)
          c.put.ensures.good (stands_put _ _ ks _ (c.put.ensures.lends ∙ ap g.Q.Queue.lender same) r.kind.below c.code-code.result c.in-Some.key waits);
      same = ap tables_on c.write.ensures ∙ offer_kept r g.met.Q.Cost.Cost.laws t c.args.to c.args.back c.code-code.result c.code-code.ensures c.estimate.result c.in-Some.key c.estimate.ensures c.in-Some.ensures h;
    }

pub returns-else-improves_on-clause-same : goal.returns-else-improves_on-clause-same
returns-else-improves_on-clause-same g c =
    let r = rule g.Q.Cost.Cost.kind (g.E.Estimator.bound c.args.self.now.estimator) c.args.size in
    offer_left r g.met.Q.Cost.Cost.laws (tables_on c.args.self.now) c.args.to c.args.back c.code-code.result c.code-code.ensures (c.if-improves_on.ensures r.bound r.size)
