use Rattle.std.proofs.Common.{codes, arith, rules}
use Rattle.std.proofs.lemmas.Slice.Eq.{text_from_reads}
use Rattle.text.proofs.parts.PlanWordsParts.with.Goals as goal

pub returns-in_ok-fill-in-estimator : goal.returns-in_ok-fill-in-estimator
returns-in_ok-fill-in-estimator c =
    let name = text_from_reads c.args.name.now (codes "estimator") (omega arith) (search arith) in
    rw name (search rules)
