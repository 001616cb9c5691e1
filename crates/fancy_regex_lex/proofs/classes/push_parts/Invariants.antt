use Rattle.std.proofs.Common.{◌≡◌, ◌≤◌, ◌<◌, ◌+◌, ℕ, length, chars, string_bytes, IsUtf8}
use Rattle.fancy_regex_text.specs.ParseFault.{prepend}
use Rattle.fancy_regex_lex.specs.Classes.{class_parts}
use Rattle.fancy_regex_lex.proofs.classes.push_parts.Given as goal

-- the parts so far and those to come are the class's, and no more brackets are open than characters were read
abbrev pub invariant-loop-after : goal.invariant-loop-after
invariant-loop-after l =
    IsUtf8 l.rest × (l.level + length (chars l.rest) ≤ length (chars l.text)) × (m : ℕ) × (length (chars l.rest) < m)
    × (prepend (chars (string_bytes l.out)) (class_parts l.oniguruma m l.level (chars l.rest))
    ≡ prepend (chars (string_bytes l.fn.out)) (class_parts l.oniguruma (length (chars l.text) + 1) 0 (chars l.text)))

abbrev pub decreases-loop-after : goal.decreases-loop-after
decreases-loop-after l = length (chars l.rest)
