use Rattle.std.proofs.Common.{length, chars, IsUtf8}
use Rattle.fancy_regex_text.specs.Names.{is_name_char}
use Rattle.fancy_regex_text.proofs.SpanLemmas.{IsSpanned}
use Rattle.fancy_regex_text.proofs.names.split_name.Given as goal

abbrev pub decreases-loop-after : goal.decreases-loop-after
decreases-loop-after l = length (chars l.rest)

-- characters of a name were taken from the front
abbrev pub invariant-loop-after : goal.invariant-loop-after
invariant-loop-after l = IsUtf8 l.rest × IsSpanned is_name_char (chars l.text) (chars l.rest)
