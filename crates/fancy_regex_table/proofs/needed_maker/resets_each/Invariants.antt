use Rattle.std.proofs.Common.{◌≡◌, ◌+◌, ◌<◌, ℕ, Some}
use Rattle.std.specs.Prelude.{slice_get}
use Rattle.fancy_regex_table.specs.Needed.{HasCell, Resets}
use Rattle.fancy_regex_table.specs.declared.needed_choice.Reached.{Reached}
use Rattle.fancy_regex_table.proofs.needed_maker.resets_each.Given as goal

abbrev pub invariant-loop-i : goal.invariant-loop-i
invariant-loop-i l = record {
  resets : (k : ℕ) (it : Reached) → k < l.i → slice_get l.reached k ≡ Some it → HasCell l.cells (it.row + l.class) (Resets l.fresh);
}
