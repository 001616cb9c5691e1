-- Sets of bytes.
use Rattle.std.specs.Prelude.{ℕ, ◌-◌, Bool, false, ◌&&◌, ◌||◌, ◌==◌, List, slice_index, slice_index_or, encode_utf8}
use Rattle.std.specs.List.{filter, list_any}
use Rattle.fancy_regex_meaning.specs.Positions.{numbers_from}
use Rattle.fancy_regex_bytes.specs.declared.byte_set.ByteSet.{ByteSet}
use Rattle.fancy_regex_bytes.specs.declared.byte_set.ByteSetIter.{ByteSetIter}

-- a set of bytes, as the test that its members pass
abbrev pub Bytes : Type 0
Bytes = ℕ → Bool

abbrev pub no_bytes : Bytes
no_bytes b = false

abbrev pub either_bytes : Bytes → Bytes → Bytes
either_bytes f g b = f b || g b

abbrev pub both_bytes : Bytes → Bytes → Bytes
both_bytes f g b = f b && g b

-- the bytes of a list
abbrev pub bytes_in : List ℕ → Bytes
bytes_in bs b = list_any (λ x. x == b) bs

-- the first byte of a character in UTF-8
abbrev pub first_byte : ℕ → ℕ
first_byte c = slice_index (encode_utf8 c) 0

-- the set has the byte
abbrev pub has : ByteSet → Bytes
has set b = slice_index_or set.table b false

-- the bytes of the set among the n from i on, ascending
unfoldable pub members_from : ByteSet → ℕ → ℕ → List ℕ
members_from set n i = filter (has set) (numbers_from n i)

-- the bytes of the set, ascending
abbrev pub members : ByteSet → List ℕ
members set = members_from set 256 0

-- the bytes that are still to come
abbrev pub rest : ByteSetIter → List ℕ
rest iter = members_from iter.set.now (256 - iter.next) iter.next
