use Rattle.std.proofs.Common.{◌≡◌, ◌<◌, ℕ, Option, Some, length}
use Rattle.std.specs.Prelude.{slice_get}
use Rattle.fancy_regex_table.specs.Making.{HasColumnOf}
use Rattle.fancy_regex_table.proofs.columns.columns_of.Given as goal

abbrev pub invariant-loop-i : goal.invariant-loop-i
invariant-loop-i l = record {
  long : length l.columns.items ≡ l.i;
  right : (k : ℕ) (sample : Option ℕ) → k < l.i → slice_get l.alphabet.samples.items k ≡ Some sample
      → HasColumnOf l.reader.matchers.now l.alphabet.asked l.reader.unicode l.columns.items k sample;
}
