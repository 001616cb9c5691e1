use Rattle.std.proofs.Common.{◌≡◌, ◌<◌, length, chars, IsUtf8, Some}
use Rattle.fancy_regex_template.specs.Numbers.{append_digits, leading_number}
use Rattle.fancy_regex_template.proofs.numbers.leading_number.Given as goal

abbrev pub decreases-loop-longer : goal.decreases-loop-longer
decreases-loop-longer l = length (chars l.rest)

-- digits were taken from the front
abbrev pub invariant-loop-longer : goal.invariant-loop-longer
invariant-loop-longer l = IsUtf8 l.rest × (length (chars l.rest) < length (chars l.text)) × (leading_number (chars l.text) ≡ Some (append_digits l.number (chars l.rest)))
