use Rattle.std.proofs.Common.{◌≡◌, ◌<◌, ℕ, Some}
use Rattle.std.specs.Prelude.{slice_get}
use Rattle.fancy_regex_table.specs.Needed.{IsDone, ResetsAnyhow}
use Rattle.fancy_regex_table.specs.declared.needed_choice.Reached.{Reached}
use Rattle.fancy_regex_table.proofs.needed_maker.resets_all.Given as goal

abbrev pub invariant-loop-i : goal.invariant-loop-i
invariant-loop-i l = record {
  done : (k : ℕ) (it : Reached) → k < l.i → slice_get l.reached k ≡ Some it → IsDone l.cells l.string l.class it (ResetsAnyhow l.fresh);
}
