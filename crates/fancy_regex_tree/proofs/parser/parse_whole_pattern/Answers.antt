use Rattle.std.proofs.Common.{arith}
use Rattle.fancy_regex_tree.proofs.TreeBounds.{whole_read, pattern_low}
use Rattle.fancy_regex_tree.proofs.parser.parse_whole_pattern.Goals as goal

pub returns-clause-small : goal.returns-clause-small
returns-clause-small c = rw c.in_ok-pattern_of.ensures (whole_read _ _ _ c.in_ok-branches.ensures.small)

pub returns-clause-low : goal.returns-clause-low
returns-clause-low c =
    let low = pattern_low 830 _ c.in_ok-branches.ensures.low in rw c.in_ok-pattern_of.ensures (omega (arith, low))
