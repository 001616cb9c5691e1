use Rattle.fancy_regex_class.proofs.RangeBitLemmas.{mask_bits}
use Rattle.fancy_regex_class.proofs.range_bits.mask.Goals as goal

pub returns : goal.returns
returns c = λ i below. mask_bits c.args.low c.args.high i c.requires.ordered c.requires.inside below
