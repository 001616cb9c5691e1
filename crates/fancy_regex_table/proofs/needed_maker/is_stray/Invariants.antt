use Rattle.std.proofs.Common.{◌≡◌, ◌<◌, ℕ, Some}
use Rattle.std.specs.Prelude.{slice_get}
use Rattle.fancy_regex_table.proofs.needed_maker.is_stray.Given as goal

abbrev pub invariant-loop-i : goal.invariant-loop-i
invariant-loop-i l = record { none : (k : ℕ) → k < l.i → slice_get l.string k ≡ Some l.class → ⊥ }
