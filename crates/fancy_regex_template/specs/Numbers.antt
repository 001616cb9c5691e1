-- The numbers in templates. A number that passes 64 bits is none.
use Rattle.std.specs.Prelude.{ℕ, ◌+◌, ◌*◌, nat_le, ◌&&◌, [], ◌∷◌, Option, Some, None, option_map, if◌then◌else◌}
use Rattle.std.specs.Char.{digit_value}
use Rattle.fancy_regex_text.specs.Text.{Text, is_decimal, is_empty, unbounded}

-- the number with one more decimal digit at its end
abbrev pub with_digit : ℕ → ℕ → ℕ
with_digit n c = n * 10 + digit_value c

-- the number with the first character as one more digit at its end, and the rest; None if that is no digit, or the number passes 64 bits
unfoldable pub append_digit : ℕ → Text → Option (ℕ × Text)
append_digit n [] = None
append_digit n (c ∷ t) = if is_decimal c && nat_le (with_digit n c) unbounded then Some (with_digit n c, t) else None

-- the number with as many of the leading digits at its end as fit 64 bits, and the rest
unfoldable pub append_digits : ℕ → Text → ℕ × Text
append_digits n [] = (n, [])
append_digits n (c ∷ t) = if is_decimal c && nat_le (with_digit n c) unbounded then append_digits (with_digit n c) t else (n, c ∷ t)

-- the number that the leading digits write, as many of them as fit 64 bits, and the rest; None if there is no digit
unfoldable pub leading_number : Text → Option (ℕ × Text)
leading_number t = option_map (λ first. append_digits first.0 first.1) (append_digit 0 t)

-- the number that the whole text writes, if it is one or more decimal digits and fits 64 bits
unfoldable pub number_of : Text → Option ℕ
number_of t = elim (leading_number t) [ None ↦ None | Some found ↦ if is_empty found.1 then Some found.0 else None ]
