use Rattle.std.proofs.Common.{◌^◌, ◌<◌, length, arith}
use Rattle.std.proofs.lemmas.Nat.{pow_below}
use Rattle.labelling.proofs.Desks.{fit_again}
use Rattle.labelling.proofs.Starting.{within_more}
use Rattle.labelling.proofs.desk.Desk.offer_starts.Goals as goal

pub offer-requires : goal.offer-requires
offer-requires g c =
    let l : c.loop-i.i < length c.args.outlets.now = omega arith in
    let p : 2 ^ c.loop-i.i < 2 ^ length c.args.outlets.now = pow_below c.loop-i.i (length c.args.outlets.now) l in
    record {
      fit = fit_again g.E.Estimator.bound c.args.self.now c.loop-i.self c.loop-i.invariant.0;
      junction = (within_more c.args.outlets.now c.loop-i.i l c.args.size.junctions c.loop-i.invariant.2).0;
      outlets = omega (arith, p, c.bit.ensures, c.requires.sets);
    }
