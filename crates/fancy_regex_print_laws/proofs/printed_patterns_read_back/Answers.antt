use Rattle.fancy_regex_print_laws.proofs.printed_patterns_read_back.Goals as goal
use Rattle.fancy_regex_print_laws.proofs.ReadsBack.{printed_reads_back, deep_is_refused}

pub returns-clause-form : goal.returns-clause-form
returns-clause-form c = printed_reads_back

pub returns-clause-deep : goal.returns-clause-deep
returns-clause-deep c = deep_is_refused
