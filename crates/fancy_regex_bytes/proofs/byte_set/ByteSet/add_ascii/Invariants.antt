use Rattle.std.proofs.Common.{◌≡◌, ℕ, ◌<◌, ◌≤◌, false, get_or, length, ◌||◌}
use Rattle.fancy_regex_bytes.specs.StartBytes.{class_starts}
use Rattle.fancy_regex_bytes.proofs.byte_set.ByteSet.add_ascii.Given as goal

abbrev pub invariant-loop-byte : goal.invariant-loop-byte
invariant-loop-byte l = record {
  long : length l.self.table ≡ 256;
  done : (k : ℕ) → k < l.byte → get_or l.self.table k false ≡ (class_starts (λ b. get_or l.ascii b false) k || get_or l.initial.self.table k false);
  rest : (k : ℕ) → l.byte ≤ k → get_or l.self.table k false ≡ get_or l.initial.self.table k false;
}
