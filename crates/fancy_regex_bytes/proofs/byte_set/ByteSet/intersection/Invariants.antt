use Rattle.std.proofs.Common.{◌≡◌, ℕ, ◌<◌, false, get_or, length, ◌&&◌}
use Rattle.fancy_regex_bytes.proofs.byte_set.ByteSet.intersection.Given as goal

abbrev pub invariant-loop-byte : goal.invariant-loop-byte
invariant-loop-byte l = record {
  long : length l.table ≡ 256;
  done : (k : ℕ) → k < l.byte → get_or l.table k false ≡ (get_or l.self.table k false && get_or l.other.table k false);
}
