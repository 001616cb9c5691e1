use Rattle.fancy_regex_print_laws.proofs.printed_patterns_mean_the_same.Goals as goal
use Rattle.fancy_regex_print_laws.proofs.ReadsBack.{printed_means_the_same}

pub returns : goal.returns
returns c = printed_means_the_same
