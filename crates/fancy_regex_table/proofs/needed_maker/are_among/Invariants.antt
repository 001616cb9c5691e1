use Rattle.std.proofs.Common.{◌≡◌, ◌<◌, ℕ, true, false}
use Rattle.std.specs.Prelude.{slice_index_or}
use Rattle.fancy_regex_table.proofs.needed_maker.are_among.Given as goal

abbrev pub invariant-loop-class : goal.invariant-loop-class
invariant-loop-class l = record { among : (k : ℕ) → k < l.class → slice_index_or l.used k false ≡ true → slice_index_or l.marked k false ≡ true }
