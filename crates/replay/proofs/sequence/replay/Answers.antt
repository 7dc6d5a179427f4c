use Rattle.std.proofs.Common.{refl}
use Rattle.std.proofs.lemmas.Result.{err_from_is_err_and}
use Rattle.search.proofs.Standing.{stands_as_is}
use Rattle.replay.proofs.sequence.replay.Goals as goal

pub returns-in_err-district : goal.returns-in_err-district
returns-in_err-district g c =
    let refused = err_from_is_err_and c.from_residual.result c.from_residual.ensures.1 in
    record {
      replays = rw (refused.1, refused.2) (c.in_err-district.ensures.0, c.in_err-district.ensures.1, refl);
      stands = stands_as_is g.Q.Queue.lender g.Q.Queue.waiting g.E.Estimator.lender g.E.Estimator.within c.args.desk.now;
    }
