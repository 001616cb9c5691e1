use Rattle.std.proofs.Common.{◌≡◌, ℕ, length, None}
use Rattle.fancy_regex_compiler.specs.Kept.{table_of}
use Rattle.fancy_regex_compiler.proofs.calls.no_places.Given as goal

abbrev pub invariant-loop-group : goal.invariant-loop-group
invariant-loop-group l = record { count : length l.places.items ≡ l.group; none : (k : ℕ) → table_of l.places.items k ≡ None }
