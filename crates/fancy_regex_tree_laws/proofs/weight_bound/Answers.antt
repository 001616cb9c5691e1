use Rattle.fancy_regex_tree_laws.proofs.PatternWeights.{weights_are_bounded}
use Rattle.fancy_regex_tree_laws.proofs.weight_bound.Goals as goal

pub returns : goal.returns
returns c = weights_are_bounded
