use Rattle.std.proofs.Common.{◌≡◌, ◌+◌, ◌<◌, ℕ, Some}
use Rattle.std.specs.Prelude.{slice_get}
use Rattle.fancy_regex_table.specs.Needed.{HasCell, LeadsTo}
use Rattle.fancy_regex_table.specs.declared.needed_choice.Reached.{Reached}
use Rattle.fancy_regex_table.proofs.needed_maker.leads_all.Given as goal

abbrev pub invariant-loop-i : goal.invariant-loop-i
invariant-loop-i l = record {
  leads : (k : ℕ) (it : Reached) → k < l.i → slice_get l.reached k ≡ Some it → HasCell l.cells (it.row + l.class) (LeadsTo l.begins l.reached l.class 0);
}
