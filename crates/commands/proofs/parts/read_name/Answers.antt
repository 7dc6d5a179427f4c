use Rattle.std.proofs.Common.{codes, refl, arith}
use Rattle.std.proofs.lemmas.Slice.Eq.{text_from_reads}
use Rattle.commands.proofs.parts.read_name.Goals as goal

pub returns-in-labels : goal.returns-in-labels
returns-in-labels c = rw (text_from_reads c.args.name.now (codes "labels") (omega arith) (search arith)) refl

pub returns-in-places : goal.returns-in-places
returns-in-places c = rw (text_from_reads c.args.name.now (codes "places") (omega arith) (search arith)) refl

pub returns-in-estimator : goal.returns-in-estimator
returns-in-estimator c = rw (text_from_reads c.args.name.now (codes "estimator") (omega arith) (search arith)) refl
