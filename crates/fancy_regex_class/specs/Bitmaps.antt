-- Members of a class as bits, where each row of 64 code points names its word.
use Rattle.std.specs.Prelude.{ℕ, ◌/◌, ◌%◌, Bool, ◌==◌, slice_index_or}
use Rattle.std.specs.Int.{bit_at}
use Rattle.fancy_regex_class.specs.declared.bitmap.Bitmap.{Bitmap}

-- the bit of a code point
abbrev pub has_member : Bitmap → ℕ → Bool
has_member bitmap c = bit_at (slice_index_or bitmap.words.items (slice_index_or bitmap.rows.items (c / 64) 0) 0) (c % 64) == 1
