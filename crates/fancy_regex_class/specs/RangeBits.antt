-- Members of a class as bits, 64 to a word.
use Rattle.std.specs.Prelude.{◌≡◌, ◌<◌, ◌≤◌, ℕ, ◌/◌, ◌%◌, Bool, ◌==◌, List, length, slice_index_or}
use Rattle.std.specs.Char.{IsScalar}
use Rattle.std.specs.Int.{bit_at}

-- the bit of a code point
abbrev pub has_bit : List ℕ → ℕ → Bool
has_bit words c = bit_at (slice_index_or words (c / 64) 0) (c % 64) == 1

-- the words have the bits of the characters that are not ASCII, lie below U+10000 and pass the test
pub record AreWideBits (words : List ℕ) (test : ℕ → Bool) : Type 0 where
  pub filled : length words ≡ 1024
  pub bits : (c : ℕ) → IsScalar c → 128 ≤ c → c < 65536 → has_bit words c ≡ test c
