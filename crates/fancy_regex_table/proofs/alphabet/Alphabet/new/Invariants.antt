use Rattle.std.proofs.Common.{◌≡◌, ◌<◌, ◌≤◌, ◌+◌, ℕ, Some, None, get_or, length}
use Rattle.std.specs.Prelude.{slice_get}
use Rattle.fancy_regex_table.specs.Alphabets.{HasClass}
use Rattle.fancy_regex_table.proofs.alphabet.Alphabet.new.Given as goal

abbrev pub invariant-loop-code : goal.invariant-loop-code
invariant-loop-code l = record {
  wide : length l.ascii ≡ 128;
  long : length l.samples.items ≤ l.code + 1;
  end : slice_get l.samples.items 0 ≡ Some None;
  classes : (c : ℕ) → c < l.code
      → HasClass l.tests.reader.now.unicode l.tests.reader.now.matchers.now l.tests.leaves.now l.tests.asked l.samples.items (Some c) (get_or l.ascii c 0);
}
