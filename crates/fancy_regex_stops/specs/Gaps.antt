-- How far bytes are past ranges.
use Rattle.std.specs.Prelude.{ltb, eqb, not, Bool, ℕ, ◌+◌, ◌-◌, ◌%◌, ◌^◌, cond}
use Rattle.fancy_regex_stops.specs.declared.byte_range.ByteRange.{ByteRange}
use Rattle.fancy_regex_stops.specs.declared.stops.Stops.{Stops}

-- the difference of two bytes, modulo 256
abbrev pub wrapped : ℕ → ℕ → ℕ
wrapped a b = (a + (2 ^ 8 - b)) % 2 ^ 8

abbrev pub lesser : ℕ → ℕ → ℕ
lesser a b = cond (ltb a b) a b

abbrev pub greater : ℕ → ℕ → ℕ
greater a b = cond (ltb a b) b a

abbrev pub is_zero : ℕ → Bool
is_zero a = eqb a 0

abbrev pub is_more : ℕ → Bool
is_more a = not (is_zero a)

-- how far the byte is past the range: 0 for those in it
abbrev pub gap_of : ByteRange → ℕ → ℕ
gap_of range byte = wrapped (wrapped byte range.low) (lesser (wrapped byte range.low) range.width)

-- how far the byte is below the limit: 0 from there on
abbrev pub limit_gap : ℕ → ℕ → ℕ
limit_gap limit byte = wrapped limit (lesser byte limit)

-- 0 for a byte of one of the ranges, and from the limit on
abbrev pub gap_in : Stops → ℕ → ℕ
gap_in stops byte = lesser (lesser (lesser (limit_gap stops.limit byte) (gap_of stops.first byte)) (gap_of stops.second byte)) (gap_of stops.third byte)

-- 0 from the limit on, and for a byte of one of the ranges before one of the others or from their limit on
abbrev pub pair_gap : Stops → Stops → ℕ → ℕ → ℕ
pair_gap stops others byte next = lesser (limit_gap stops.limit byte) (greater (gap_in stops byte) (gap_in others next))
