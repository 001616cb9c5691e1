use Rattle.std.proofs.Common.{◌≡◌, ℕ, None}
use Rattle.fancy_regex_compiler.specs.Inlined.{room_at}
use Rattle.fancy_regex_compiler.proofs.inlined_groups.no_rooms.Given as goal

abbrev pub invariant-loop-group : goal.invariant-loop-group
invariant-loop-group l = (k : ℕ) → room_at l.rooms.items k ≡ None
