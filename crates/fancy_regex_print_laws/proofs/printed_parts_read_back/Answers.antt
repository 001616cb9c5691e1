use Rattle.fancy_regex_print_laws.proofs.PrintedPartProofs.{parts_read_back, parts_keep_ways}
use Rattle.fancy_regex_print_laws.proofs.printed_parts_read_back.Goals as goal

pub returns-clause-forms : goal.returns-clause-forms
returns-clause-forms c = parts_read_back

pub returns-clause-ways : goal.returns-clause-ways
returns-clause-ways c = parts_keep_ways
