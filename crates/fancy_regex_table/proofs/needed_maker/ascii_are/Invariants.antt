use Rattle.std.proofs.Common.{◌≡◌, ◌<◌, ℕ, true, false}
use Rattle.std.specs.Prelude.{slice_index_or}
use Rattle.fancy_regex_table.proofs.needed_maker.ascii_are.Given as goal

abbrev pub invariant-loop-code : goal.invariant-loop-code
invariant-loop-code l = record { are : (c : ℕ) → c < l.code → slice_index_or l.by_class (slice_index_or l.classes c 0) false ≡ true }
