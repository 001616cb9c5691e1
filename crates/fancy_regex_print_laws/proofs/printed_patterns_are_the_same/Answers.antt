use Rattle.fancy_regex_print_laws.proofs.printed_patterns_are_the_same.Goals as goal
use Rattle.fancy_regex_print_laws.proofs.ReadsBack.{printed_is_same_pattern}

pub returns : goal.returns
returns c = printed_is_same_pattern
