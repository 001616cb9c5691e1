use Rattle.fancy_regex_tree.proofs.quantifiers.+parse_quantifiers.Given as goal

abbrev pub decreases-parse_quantifiers : goal.decreases-parse_quantifiers
decreases-parse_quantifiers l = l.more
