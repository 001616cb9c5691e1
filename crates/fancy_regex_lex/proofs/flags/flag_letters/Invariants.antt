use Rattle.std.proofs.Common.{◌≡◌, ◌≤◌, length, chars, IsUtf8, true}
use Rattle.fancy_regex_text.specs.Text.{IsSuffix}
use Rattle.fancy_regex_lex.specs.FlagLetters.{flag_letters}
use Rattle.fancy_regex_lex.proofs.flags.flag_letters.Given as goal

-- what is left is read as the whole is
abbrev pub invariant-loop-c : goal.invariant-loop-c
invariant-loop-c l =
    IsUtf8 l.rest × IsSuffix (chars l.rest) (chars l.here) × (length (chars l.rest) ≤ length (chars l.text))
    × (flag_letters l.unicode (chars l.here) l.on l.changed (chars l.rest) ≡ flag_letters l.unicode (chars l.here) true l.fn.flags (chars l.text))

abbrev pub decreases-loop-c : goal.decreases-loop-c
decreases-loop-c l = length (chars l.rest)
