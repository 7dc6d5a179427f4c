use Rattle.std.proofs.Common.{codes, refl, arith}
use Rattle.std.proofs.lemmas.Slice.Eq.{text_from_reads}
use Rattle.commands.proofs.parts.read_estimator.Goals as goal

pub returns-in-silent : goal.returns-in-silent
returns-in-silent c = rw (text_from_reads c.args.word.now (codes "silent") (omega arith) (search arith)) refl

pub returns-in-farthest : goal.returns-in-farthest
returns-in-farthest c = rw (text_from_reads c.args.word.now (codes "farthest") (omega arith) (search arith)) refl

pub returns-in-larger : goal.returns-in-larger
returns-in-larger c = rw (text_from_reads c.args.word.now (codes "larger") (omega arith) (search arith)) refl
