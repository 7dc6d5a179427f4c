use Rattle.std.proofs.Common.{◌≡◌, ◌≤◌, length, sym, refl, ap, ◌∙◌, subst, arith, pow_pos}
use Rattle.std.proofs.lemmas.Bool.{cond-true}
use Rattle.network.specs.Bounds.{others}
use Rattle.district.specs.Model.{layout_of}
use Rattle.labelling.specs.Labelling.{Labelled}
use Rattle.estimate.specs.Estimates.{Prepared}
use Rattle.labelling.specs.Tables.{codes, Ready}
use Rattle.labelling.specs.Desks.{tables_on, places_on}
use Rattle.labelling.specs.Starts.{rule_of, labelling}
use Rattle.labelling.proofs.Viewing.{ends_from}
use Rattle.labelling.proofs.Ended.{Ended, labelling_ended}
use Rattle.search.specs.Planning.{questions, concluded}
use Rattle.search.proofs.Plans.{passed, all_within, drawable_by, cases_ok}
use Rattle.search.proofs.Promises.{promise}
use Rattle.search.proofs.plan.plan.Goals as goal

pub conclude-requires : goal.conclude-requires
conclude-requires g c =
    let v = c.args.view.now in
    let l = layout_of v in
    let d = c.args.desk.now in
    let capacity = length (g.Q.Queue.waiting d.queue) in
    let row = length c.args.answer.now in
    let within = g.E.Estimator.within d.estimator in
    let asked = c.in_ok-size.ensures
    ∙ ap (λ n. questions l n c.capacity.result c.fits-fits.result row) c.min-places.ensures
    ∙ ap (λ n. questions l (places_on d) n c.fits-fits.result row) c.capacity.ensures
    ∙ ap (λ b. questions l (places_on d) capacity b row) c.fits-fits.ensures in
    let p = passed l (places_on d) capacity (within l.junctions (length l.outlets)) row c.in_ok-size.size asked in
    let some = p.room.marked in
    let in-labels = p.room.labels in
    let kind = g.Q.Cost.Cost.kind in
    let bound = g.E.Estimator.bound c.prepare.new.self in
    let t0 = tables_on d in
    let x : Labelled _ = record { ending = c.in_ok-ending.ending; left = tables_on c.label_view.new.self } in
    let ended : Ended (rule_of kind bound l) l c.args.limit t0 x =
    subst (Ended (rule_of kind bound l) l c.args.limit t0) (sym c.in_ok-ending.ensures.labels.0)
    (labelling_ended (rule_of kind bound l) l refl (ends_from v.junctions v.runs.now v.ends) (all_within v.junctions v.outlets.now v.inside) some t0 (omega arith) (omega arith) c.args.limit) in
    let labels_long = ended.labels_long in
    let ways_long = ended.ways_long in
    let pos = pow_pos (others l) in
    record {
      marked = some;
      size = p.room.is;
      places = subst (λ s. codes s ≤ places_on c.label_view.new.self) (sym p.room.is) (omega arith);
      room = p.answer;
      drawable = λ fin. drawable_by kind bound l c.args.limit t0 x (v.inside 0 some) (omega arith) ended fin;
    }

pub returns : goal.returns
returns g c =
    let v = c.args.view.now in
    let l = layout_of v in
    let d = c.args.desk.now in
    let capacity = length (g.Q.Queue.waiting d.queue) in
    let row = length c.args.answer.now in
    let within = g.E.Estimator.within d.estimator in
    let asked = c.in_ok-size.ensures
    ∙ ap (λ n. questions l n c.capacity.result c.fits-fits.result row) c.min-places.ensures
    ∙ ap (λ n. questions l (places_on d) n c.fits-fits.result row) c.capacity.ensures
    ∙ ap (λ b. questions l (places_on d) capacity b row) c.fits-fits.ensures in
    let p = passed l (places_on d) capacity (within l.junctions (length l.outlets)) row c.in_ok-size.size asked in
    let some = p.room.marked in
    let ready = c.prepare.ensures.answers ∙ cond-true (within l.junctions (length l.outlets)) _ _ p.estimator in
    let done = c.in_ok-ending.ensures.labels in
    let kind = g.Q.Cost.Cost.kind in
    let bound = g.E.Estimator.bound c.prepare.new.self in
    let t0 = tables_on d in
    let in-labels = p.room.labels in
    let x : Labelled _ = record { ending = c.in_ok-ending.ending; left = tables_on c.label_view.new.self } in
    let ended : Ended (rule_of kind bound l) l c.args.limit t0 x =
    subst (Ended (rule_of kind bound l) l c.args.limit t0) (sym done.0)
    (labelling_ended (rule_of kind bound l) l refl (ends_from v.junctions v.runs.now v.ends) (all_within v.junctions v.outlets.now v.inside) some t0 (omega arith) (omega arith) c.args.limit) in
    let same = sym c.in_ok-ending.ensures.estimator in
    let after = c.label_view.new.self in
    let is-x = subst (λ e. x ≡ labelling kind (g.E.Estimator.bound e) l c.args.limit t0) same done.0 in
    let is-plan = c.conclude.ensures ∙ ap (λ y. concluded kind l y c.args.answer.now) is-x in
    let is-left = ap (λ (y : Labelled _). y.left) is-x in
    let lawful = subst (λ e. Prepared kind l (g.E.Estimator.bound e)) same (c.prepare.ensures.lawful ready) in
    record {
      stands = record {
        lent = c.in_ok-ending.ensures.lent;
        labels = ended.labels_long;
        ways = ended.ways_long;
        held = ap g.E.Estimator.lender c.in_ok-ending.ensures.estimator ∙ c.prepare.ensures.lends;
        room = ap g.E.Estimator.within c.in_ok-ending.ensures.estimator ∙ c.prepare.ensures.room;
      };
      plans = cases_ok _ _ (questions l (places_on d) capacity (within l.junctions (length l.outlets)) row) c.in_ok-size.size asked (
        record {
          plan = is-plan;
          labels = is-left;
          queue = subst (λ e. Ready (rule_of kind (g.E.Estimator.bound e) l) (tables_on after) (g.Q.Queue.waiting after.queue)) same done.1.ready;
        },
        subst (λ e. g.E.Estimator.makes l (g.E.Estimator.bound e)) same (c.prepare.ensures.made ready),
        lawful,
        done.1.good,
        λ priced.
            promise kind g.met.Q.Cost.Cost.laws (g.E.Estimator.bound after.estimator) l (ends_from v.junctions v.runs.now v.ends) v.few
            (all_within v.junctions v.outlets.now v.inside) some priced (lawful.lawful priced)
            t0 (omega arith) (omega arith) c.args.limit c.args.answer.now p.answer _ _ is-plan is-left,
      );
    }
