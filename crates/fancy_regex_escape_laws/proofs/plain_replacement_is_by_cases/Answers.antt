use Rattle.fancy_regex_escape_laws.proofs.OccurrenceLemmas.{plain_replacement_is_by_cases}
use Rattle.fancy_regex_escape_laws.proofs.plain_replacement_is_by_cases.Goals as goal

pub returns : goal.returns
returns c = plain_replacement_is_by_cases
