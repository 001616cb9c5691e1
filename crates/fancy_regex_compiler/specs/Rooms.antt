-- How many instructions a pattern takes at most, where some calls stay.
use Rattle.std.specs.Prelude.{ℕ, ◌+◌, Option, Some, None}
use Rattle.fancy_regex_desugar.specs.CorePatterns.{CorePattern, nothing, cat, alt, group, ahead, never, back, atomic, tail, repeat, conditional, absent, called}
use Rattle.fancy_regex_program.specs.Code.{Layout}
use Rattle.fancy_regex_program.specs.Ops.{Place}

-- a call that stays is one instruction
abbrev pub room_at_call : Option Place → ℕ → ℕ
room_at_call None n = n
room_at_call (Some c) n = 1

-- the upper bound on the number of instructions, as `room`, where those calls stay
unfoldable pub room_with : Layout → CorePattern → ℕ
room_with layout nothing = 0
room_with layout (cat a b) = room_with layout a + room_with layout b
room_with layout (alt a b) = 2 + (room_with layout a + room_with layout b)
room_with layout (back n) = 1
room_with layout (group k a) = 12 + room_with layout a
room_with layout (ahead a) = 12 + room_with layout a
room_with layout (never a) = 12 + room_with layout a
room_with layout (atomic a) = 12 + room_with layout a
room_with layout (tail t a) = 1 + room_with layout a
room_with layout (repeat a lo hi greedy) = 12 + room_with layout a
room_with layout (conditional c a b) = 12 + (room_with layout c + (room_with layout a + room_with layout b))
room_with layout (absent a) = 12 + room_with layout a
room_with layout (called k a) = room_at_call (layout k) (room_with layout a)
room_with layout _ = 12
