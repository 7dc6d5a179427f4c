use Rattle.std.proofs.Common.{codes, refl, arith}
use Rattle.std.proofs.lemmas.Slice.Eq.{text_from_reads}
use Rattle.text.proofs.parts.read_estimator.Goals as goal

pub returns-in-silent : goal.returns-in-silent
returns-in-silent c = rw (text_from_reads c.args.word.now (codes "silent") (omega arith) (search arith)) refl
