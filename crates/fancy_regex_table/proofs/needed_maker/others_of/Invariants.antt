use Rattle.std.proofs.Common.{◌≡◌, ◌<◌, ℕ, true, false, length, slice_index}
use Rattle.std.specs.Prelude.{slice_index_or}
use Rattle.fancy_regex_table.specs.Needed.{IsOther}
use Rattle.fancy_regex_table.proofs.needed_maker.others_of.Given as goal

abbrev pub invariant-loop-code : goal.invariant-loop-code
invariant-loop-code l = record {
  long : length l.marked ≡ 128;
  others : (c : ℕ) → slice_index_or l.marked c false ≡ true → IsOther l.string l.place (slice_index l.classes c);
}
