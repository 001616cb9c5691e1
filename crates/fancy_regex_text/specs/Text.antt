-- Texts as lists of characters, and functions on their prefixes.
use Rattle.std.specs.Prelude.{◌≡◌, ℕ, zero, suc, ◌+◌, ◌-◌, ◌++◌, ◌*◌, Bool, true, false, ◌||◌, ◌==◌, nat_eq, List, [], ◌∷◌, length, take, fold, codes, Option, Some, None, option_map, if◌then◌else◌}
use Rattle.std.specs.List.{starts_with}
use Rattle.std.specs.Char.{is_digit, digit_value, len_utf8}
use Prim.Native.String.{String}

-- a list of code points: the rest of the pattern that is still to be read, or a part of it
abbrev pub Text : Type 0
Text = List ℕ

-- the number is in the list
abbrev pub is_among : ℕ → List ℕ → Bool
is_among c [] = false
is_among c (d ∷ []) = c == d
is_among c (d ∷ e ∷ rest) = c == d || is_among c (e ∷ rest)

-- the character is one of these
infix 60 ◌∈◌
abbrev pub ◌∈◌ : ℕ → String → Bool
c ∈ s = is_among c (codes s)

-- the first character is one of these
abbrev pub is_at : String → Text → Bool
is_at s [] = false
is_at s (c ∷ t) = c ∈ s

-- the text begins with this word
abbrev pub has_prefix : String → Text → Bool
has_prefix s t = starts_with nat_eq t (codes s)

abbrev pub is_empty : Text → Bool
is_empty [] = true
is_empty (c ∷ t) = false

-- how many bytes the text has in UTF-8
unfoldable pub bytes : Text → ℕ
bytes [] = 0
bytes (c ∷ t) = len_utf8 c + bytes t

-- the first character and the rest
abbrev pub uncons : Text → Option (ℕ × Text)
uncons [] = None
uncons (c ∷ t) = Some (c, t)

-- the rest of the text after this word; None if the text does not start with it
unfoldable pub strip_prefix : Text → Text → Option Text
strip_prefix [] t = Some t
strip_prefix (d ∷ word) [] = None
strip_prefix (d ∷ word) (c ∷ t) = if c == d then strip_prefix word t else None

-- the longest prefix whose characters pass the test, and the rest
unfoldable pub span : (ℕ → Bool) → Text → Text × Text
span test [] = ([], [])
span test (c ∷ t) = elim (test c) [ true ↦ let more = span test t in (c ∷ more.0, more.1) | false ↦ ([], c ∷ t) ]

-- the first character and the rest, if the character passes the test
abbrev pub split_if : (ℕ → Bool) → Text → Option (ℕ × Text)
split_if test [] = None
split_if test (c ∷ t) = if test c then Some (c, t) else None

-- the value of the first character as a digit of this radix, and the rest
abbrev pub split_digit : ℕ → Text → Option (ℕ × Text)
split_digit radix [] = None
split_digit radix (c ∷ t) = if is_digit c radix then Some (digit_value c, t) else None

-- the longest prefix of at most n characters that pass the test, and the rest
unfoldable pub span_at_most : (ℕ → Bool) → ℕ → Text → Text × Text
span_at_most test zero t = ([], t)
span_at_most test (suc n) [] = ([], [])
span_at_most test (suc n) (c ∷ t) =
    elim (test c) [ true ↦ let more = span_at_most test n t in (c ∷ more.0, more.1) | false ↦ ([], c ∷ t) ]

-- the text before the first occurrence of a character, and the text after it; None if it does not occur
unfoldable pub split_once : ℕ → Text → Option (Text × Text)
split_once close [] = None
split_once close (c ∷ t) = if c == close then Some ([], t) else option_map (λ found. (c ∷ found.0, found.1)) (split_once close t)

abbrev pub is_decimal : ℕ → Bool
is_decimal c = is_digit c 10

abbrev pub is_hexadecimal : ℕ → Bool
is_hexadecimal c = is_digit c 16

-- the number that the digits write
abbrev pub value : ℕ → Text → ℕ
value radix digits = fold (λ n d. n * radix + digit_value d) 0 digits

-- `usize::MAX`, which also stands for "unbounded"
abbrev pub unbounded : ℕ
unbounded = 18446744073709551615

-- the prefix of the text before this rest of it
abbrev pub prefix_before : Text → Text → Text
prefix_before here rest = take (length here - length rest) here

-- the first text is a suffix of the second
abbrev pub IsSuffix : Text → Text → Type 0
IsSuffix rest whole = (front : Text) × (whole ≡ front ++ rest)
