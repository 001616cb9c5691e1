use Rattle.fancy_regex_print_laws.proofs.printed_patterns_parse.Goals as goal
use Rattle.fancy_regex_print_laws.proofs.ReadsBack.{printed_parses, deep_is_no_pattern}

pub returns-clause-form : goal.returns-clause-form
returns-clause-form c = printed_parses

pub returns-clause-deep : goal.returns-clause-deep
returns-clause-deep c = deep_is_no_pattern
