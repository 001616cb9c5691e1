-- Group names, numbers, and the text of references.
use Rattle.std.specs.Prelude.{ℕ, ◌+◌, ◌*◌, ◌-◌, ◌^◌, ℤ, pos, neg_ℤ, min, Bool, true, false, ◌&&◌, ◌||◌, not, [], ◌∷◌, Option, Some, None, option_map, if◌then◌else◌, chars}
use Rattle.ucd_derived.specs.Binary.{is_alphabetic}
use Rattle.ucd_category.specs.GeneralCategory.{general_category}
use Rattle.ucd_category.specs.declared.GeneralCategory.{GeneralCategory}
use Rattle.ucd_category.specs.declared.GeneralCategory.TheVariants.{DecimalNumber, LetterNumber, OtherNumber}
use Rattle.fancy_regex_text.specs.Text.{Text, ◌∈◌, is_empty, is_decimal, span, value, unbounded}
use Rattle.fancy_regex_text.specs.declared.token.Target.{Target}
use Rattle.fancy_regex_text.specs.declared.token.Target.TheVariants.{ByNumber, ByName, Relative}
use Rattle.fancy_regex_text.specs.declared.token.Reference.{Reference}

-- the capture group that a reference means: by its number, by its name, or relative to the reference
pub data Named : Type 0 where
  by_number : ℕ → Named
  by_name : Text → Named
  relative : ℤ → Named

-- a reference: its target, and its recursion level if one is written
abbrev pub Referred : Type 0
Referred = Named × Option ℤ

-- the general categories of numbers
abbrev pub is_number_category : GeneralCategory → Bool
is_number_category DecimalNumber = true
is_number_category LetterNumber = true
is_number_category OtherNumber = true
is_number_category _ = false

-- the character is allowed in a name: `_`, alphabetic, or of a number category
unfoldable pub is_name_char : ℕ → Bool
is_name_char c = c ∈ "_" || is_alphabetic c || is_number_category (general_category c)

-- the whole text is one or more characters that are allowed in names
unfoldable pub is_name : Text → Bool
is_name t = let parts = span is_name_char t in not (is_empty parts.0) && is_empty parts.1

-- the number that decimal digits write, saturated at the greatest `usize`
unfoldable pub number : Text → ℕ
number digits = min (value 10 digits) unbounded

-- the number with one more decimal digit at its end, saturated
abbrev pub append_digit : Option ℕ → ℕ → ℕ
append_digit None digit = digit
append_digit (Some n) digit = min (min (n * 10) unbounded + digit) unbounded

-- the number of the leading decimal digits, None if there are none, and the rest
unfoldable pub digits : Text → Option ℕ × Text
digits t =
    let parts = span is_decimal t in
    (if is_empty parts.0 then None else Some (number parts.0), parts.1)

-- the number, if the whole text is one or more decimal digits
unfoldable pub whole_number : Text → Option ℕ
whole_number t = if is_empty (digits t).1 then (digits t).0 else None

-- the number, if the whole text is a sign and decimal digits, saturated at both ends of `isize`
unfoldable pub signed : Text → Option ℤ
signed [] = None
signed (c ∷ t) =
    if c ∈ "+" then option_map (λ n. pos (min n (2 ^ 63 - 1))) (whole_number t)
    else if c ∈ "-" then option_map (λ n. neg_ℤ (pos (min n (2 ^ 63)))) (whole_number t)
    else None

-- the target of a text: a group number if it is all decimal digits, else a group name
unfoldable pub named_target : Text → Named
named_target t = elim (whole_number t) [ None ↦ by_name t | Some n ↦ by_number n ]

-- The reference that a text without its brackets is: a number or a name, after which a signed recursion level is allowed
-- if `allow_level`; or a signed number, which is relative.
unfoldable pub reference : Bool → Text → Option Referred
reference allow_level t =
    let parts = span is_name_char t in
    if is_empty parts.0 then option_map (λ k. (relative k, None)) (signed parts.1)
    else if is_empty parts.1 then Some (named_target parts.0, None)
    else if allow_level then option_map (λ k. (named_target parts.0, Some k)) (signed parts.1)
    else None

-- targets and references of the code, with names as characters
abbrev pub named_of : Target → Named
named_of (ByNumber n) = by_number n
named_of (ByName s) = by_name (chars s.now)
named_of (Relative z) = relative z

abbrev pub referred_of : Reference → Referred
referred_of r = (named_of r.target, r.level)
