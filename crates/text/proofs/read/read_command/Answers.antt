use Rattle.std.proofs.Common.{codes, arith}
use Rattle.std.proofs.lemmas.Slice.Eq.{text_from_reads}
use Rattle.text.proofs.read.read_command.Goals as goal

pub returns-in-district : goal.returns-in-district
returns-in-district c =
    let verb = text_from_reads c.args.verb.now (codes "district") (omega arith) (search arith) in
    rw verb c.read_district.ensures
