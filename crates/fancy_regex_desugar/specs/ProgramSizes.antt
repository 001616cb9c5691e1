-- An upper bound on the size of a program.
use Rattle.std.specs.Prelude.{ℕ, ◌+◌}
use Rattle.fancy_regex_desugar.specs.CorePatterns.{CorePattern, nothing, cat, alt, group, ahead, never, back, atomic, tail, repeat, conditional, absent, called}

-- The upper bound on the number of instructions: a concatenation needs none of its own, an alternation a split and a jump, a step back and
-- the beginning of a tail one instruction each, a call those of its body, and any other node at most 12.
unfoldable pub room : CorePattern → ℕ
room nothing = 0
room (cat a b) = room a + room b
room (alt a b) = 2 + (room a + room b)
room (back n) = 1
room (group k a) = 12 + room a
room (ahead a) = 12 + room a
room (never a) = 12 + room a
room (atomic a) = 12 + room a
room (tail t a) = 1 + room a
room (repeat a lo hi greedy) = 12 + room a
room (conditional c a b) = 12 + (room c + (room a + room b))
room (absent a) = 12 + room a
room (called k a) = room a
room _ = 12
