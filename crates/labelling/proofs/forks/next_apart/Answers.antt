use lib.Bits.{and_le_l}
use Rattle.labelling.proofs.Apart.{next_rises, next_apart, next_skips}
use Rattle.labelling.proofs.forks.next_apart.Goals as goal

pub overflow_sub-result : goal.overflow_sub-result
overflow_sub-result c = and_le_l _ _

pub returns : goal.returns
returns c = record {
  rises = next_rises c.args.taken c.args.set c.requires.apart;
  apart = next_apart c.args.taken c.args.set c.requires.apart;
  skips = next_skips c.args.taken c.args.set c.requires.apart;
}
