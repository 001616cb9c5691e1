use Rattle.fancy_regex_template.proofs.LawProofs.{numbers_are_digits}
use Rattle.fancy_regex_template.proofs.laws.numbers_are_digits.Goals as goal

pub returns : goal.returns
returns c = numbers_are_digits
