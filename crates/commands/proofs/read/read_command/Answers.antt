use Rattle.std.proofs.Common.{codes, arith}
use Rattle.std.proofs.lemmas.Slice.Eq.{text_from_reads}
use Rattle.commands.proofs.read.read_command.Goals as goal

pub returns-in-district : goal.returns-in-district
returns-in-district c = rw (text_from_reads c.args.verb.now (codes "district") (omega arith) (search arith)) c.read_district.ensures

pub returns-in-reprice : goal.returns-in-reprice
returns-in-reprice c = rw (text_from_reads c.args.verb.now (codes "reprice") (omega arith) (search arith)) c.read_reprice.ensures

pub returns-in-unmark : goal.returns-in-unmark
returns-in-unmark c = rw (text_from_reads c.args.verb.now (codes "unmark") (omega arith) (search arith)) c.read_unmark.ensures
