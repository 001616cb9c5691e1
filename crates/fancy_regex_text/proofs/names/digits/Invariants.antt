use Rattle.std.proofs.Common.{◌≤◌, length, chars, IsUtf8}
use Rattle.fancy_regex_text.proofs.SpanLemmas.{IsCounted}
use Rattle.fancy_regex_text.proofs.names.digits.Given as goal

abbrev pub decreases-loop-digit : goal.decreases-loop-digit
decreases-loop-digit l = length (chars l.rest)

-- digits were taken from the front, and write the number
abbrev pub invariant-loop-digit : goal.invariant-loop-digit
invariant-loop-digit l = IsUtf8 l.rest × (length (chars l.rest) ≤ length (chars l.text)) × IsCounted l.number (chars l.text) (chars l.rest)
