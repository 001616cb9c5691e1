use Rattle.std.proofs.Common.{◌≡◌, ◌<◌, ◌≤◌, ℕ, true, false, length, slice_index, slice_index_or}
use Rattle.fancy_regex_table.proofs.needed_maker.resets_of.Given as goal

abbrev pub invariant-loop-code : goal.invariant-loop-code
invariant-loop-code l = record {
  long : length l.marked ≡ 256;
  marks : (c : ℕ) → c < l.code → slice_index_or l.marked c false ≡ true → slice_index_or l.by_class (slice_index l.classes c) false ≡ true;
  others : (b : ℕ) → 128 ≤ b → slice_index_or l.marked b false ≡ true → l.others ≡ true;
}
