use Rattle.std.proofs.Common.{refl}
use Rattle.fancy_regex_linear.specs.Quick.{open_of}
use Rattle.fancy_regex_linear.proofs.open_pairs.OpenPairs.new.Goals as goal

pub returns : goal.returns
unfolding open_of
returns c = refl
