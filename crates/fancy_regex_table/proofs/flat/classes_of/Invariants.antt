use Rattle.std.proofs.Common.{◌≡◌, ℕ, ◌<◌, ◌≤◌, get_or, length}
use Rattle.fancy_regex_table.proofs.flat.classes_of.Given as goal

abbrev pub invariant-loop-code : goal.invariant-loop-code
invariant-loop-code l = record {
  wide : length l.classes ≡ 256;
  ascii : (c : ℕ) → c < l.code → get_or l.classes c 0 ≡ get_or l.ascii c 0;
  others : (b : ℕ) → 128 ≤ b → b < 256 → get_or l.classes b 0 ≡ l.other;
}
