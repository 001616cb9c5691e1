use Rattle.std.proofs.Common.{◌≤◌, ◌-◌, length, chars, IsUtf8}
use Rattle.fancy_regex_lex.proofs.HexDigitLemmas.{IsHexRead}
use Rattle.fancy_regex_lex.proofs.escapes.hex_digits.Given as goal

-- digits were taken from the front
abbrev pub invariant-loop-found : goal.invariant-loop-found
invariant-loop-found l =
    IsUtf8 l.found.rest.now × (l.found.count ≤ l.most) × (length (chars l.found.rest.now) ≤ length (chars l.text))
    × IsHexRead l.found.value l.found.count l.most (chars l.text) (chars l.found.rest.now)

abbrev pub decreases-loop-found : goal.decreases-loop-found
decreases-loop-found l = l.most - l.found.count
