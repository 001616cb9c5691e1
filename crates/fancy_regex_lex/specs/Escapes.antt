-- Escapes.
use Rattle.std.specs.Prelude.{ℕ, ℤ, Bool, true, false, not, ◌&&◌, ◌||◌, ◌==◌, nat_le, nat_lt, [], ◌∷◌, ◌++◌, length, Option, Some, None, Ok, if◌then◌else◌, codes, chars}
use Rattle.std.specs.Char.{is_ascii_alphabetic}
use Rattle.fancy_regex_text.specs.Text.{Text, ◌∈◌, span_at_most, strip_prefix, is_empty, split_once, value, is_hexadecimal}
use Rattle.fancy_regex_text.specs.Names.{Named, by_number, Referred, digits, reference, named_of}
use Rattle.fancy_regex_text.specs.ParseFault.{ParseOutcome, ◌>>=◌, fail_at, trailing_backslash, invalid_escape, unclosed_unicode_name, invalid_hex, invalid_codepoint_value, invalid_group_name}
use Rattle.fancy_regex_lex.specs.declared.token.AssertionEscape.{AssertionEscape}
use Rattle.fancy_regex_lex.specs.declared.token.AssertionEscape.TheVariants.{TextStart, TextEnd, TextEndOrNewlines, WordBoundary, NotWordBoundary, LeftWordBoundary, RightWordBoundary, LeftWordHalfBoundary, RightWordHalfBoundary}
use Rattle.fancy_regex_lex.specs.declared.token.EscapedClass.{EscapedClass}
use Rattle.fancy_regex_lex.specs.declared.token.EscapedClass.TheVariants as class
use Rattle.fancy_regex_lex.specs.declared.token.Escape as declared
use Rattle.fancy_regex_lex.specs.declared.token.Escape.TheVariants as token

-- an escape, with texts as characters
pub data Escape : Type 0 where
  -- a literal character
  char_escape : ℕ → Escape
  -- a literal byte above 7F
  byte_escape : ℕ → Escape
  -- a class, by its text
  class_escape : Text → Escape
  -- any character; whether a newline too
  any_escape : Bool → Escape
  newline_escape : Escape
  assertion_escape : AssertionEscape → Escape
  continue_escape : Escape
  keep_out_escape : Escape
  -- what is referred to, and the level
  reference_escape : Named → Option ℤ → Escape
  call_escape : Named → Escape

-- the escapes of one letter for a character
unfoldable pub control_letter : ℕ → Option ℕ
control_letter c =
    if c ∈ "a" then Some 0x07
    else if c ∈ "e" then Some 0x1B
    else if c ∈ "f" then Some 0x0C
    else if c ∈ "n" then Some 0x0A
    else if c ∈ "r" then Some 0x0D
    else if c ∈ "t" then Some 0x09
    else if c ∈ "v" then Some 0x0B
    else None

-- the escapes of one letter for a class
unfoldable pub class_letter : ℕ → Option Text
class_letter c =
    if c ∈ "dDwWsS" then Some (0x5C ∷ c ∷ [])
    else if c ∈ "h" then Some (codes "[0-9A-Fa-f]")
    else if c ∈ "H" then Some (codes "[^0-9A-Fa-f]")
    else None

-- the escapes of one letter for an assertion; `\<` and `\>` are none in Oniguruma mode
unfoldable pub assertion_letter : Bool → ℕ → Option AssertionEscape
assertion_letter oniguruma c =
    if c ∈ "A" then Some TextStart
    else if c ∈ "z" then Some TextEnd
    else if c ∈ "Z" then Some TextEndOrNewlines
    else if c ∈ "B" then Some NotWordBoundary
    else if c ∈ "<" then (if oniguruma then None else Some LeftWordBoundary)
    else if c ∈ ">" then (if oniguruma then None else Some RightWordBoundary)
    else None

-- the other escapes of one letter
unfoldable pub other_letter : ℕ → Option Escape
other_letter c =
    if c ∈ "N" then Some (any_escape false)
    else if c ∈ "O" then Some (any_escape true)
    else if c ∈ "R" then Some newline_escape
    else if c ∈ "G" then Some continue_escape
    else if c ∈ "K" then Some keep_out_escape
    else None

-- the literal character of an escape: any character but an ASCII letter is itself
unfoldable pub plain_sign : ℕ → Option Escape
plain_sign c = if is_ascii_alphabetic c then None else Some (char_escape c)

-- the escapes of one character that are neither control characters nor classes
unfoldable pub other_sign : Bool → ℕ → Option Escape
other_sign oniguruma c =
    elim (assertion_letter oniguruma c) [
      | Some a ↦ Some (assertion_escape a)
      | None ↦
          elim (other_letter c) [ Some e ↦ Some e | None ↦ plain_sign c ]
    ]

-- the escapes of one character; any character but an ASCII letter is itself if it has no other meaning
unfoldable pub one_letter : Bool → ℕ → Option Escape
one_letter oniguruma c =
    elim (control_letter c) [
      | Some d ↦ Some (char_escape d)
      | None ↦
          elim (class_letter c) [ Some t ↦ Some (class_escape t) | None ↦ other_sign oniguruma c ]
    ]

-- Below, `here` is the text from the backslash on.

-- the code point is a character: at most 10FFFF, and not a surrogate
abbrev pub is_character : ℕ → Bool
is_character code = nat_lt code 0xD800 || (nat_le 0xE000 code && nat_le code 0x10_FFFF)

-- a character by its code
unfoldable pub code_point : Text → ℕ → Text → ParseOutcome (Escape × Text)
code_point here code rest = if is_character code then Ok (char_escape code, rest) else fail_at invalid_codepoint_value here

-- in braces: one to eight digits, as a number
unfoldable pub braced_digits : Text → Option ℕ
braced_digits t =
    let parts = span_at_most is_hexadecimal 8 t in if nat_lt 0 (length parts.0) && is_empty parts.1 then Some (value 16 parts.0) else None

unfoldable pub braced_hex : Text → Text → ParseOutcome (Escape × Text)
braced_hex here t =
    elim (split_once 0x7D t) [
      | None ↦ fail_at invalid_hex here
      | Some found ↦ elim (braced_digits found.0) [ None ↦ fail_at invalid_hex here | Some code ↦ code_point here code found.1 ]
    ]

-- exactly n leading digits, as a number, and the rest
unfoldable pub plain_digits : ℕ → Text → Option (ℕ × Text)
plain_digits n t = let parts = span_at_most is_hexadecimal n t in if length parts.0 == n then Some (value 16 parts.0, parts.1) else None

-- without braces: exactly n digits. Two of them above 7F are a byte.
unfoldable pub plain_hex : ℕ → Text → Text → ParseOutcome (Escape × Text)
plain_hex n here t =
    elim (plain_digits n t) [
      | None ↦ fail_at invalid_hex here
      | Some found ↦ if n == 2 && nat_lt 0x7F found.0 then Ok (byte_escape found.0, found.1) else code_point here found.0 found.1
    ]

unfoldable pub hex : ℕ → Text → Text → ParseOutcome (Escape × Text)
hex n here t = elim (strip_prefix (codes "{") t) [ Some inside ↦ braced_hex here inside | None ↦ plain_hex n here t ]

-- the letter of a property
abbrev pub property_letter : Bool → ℕ
property_letter negated = if negated then 0x50 else 0x70

-- the class of a property of this name
abbrev pub named_class : Bool → Text → Text
named_class negated name = 0x5C ∷ property_letter negated ∷ codes "{" ++ name ++ codes "}"

-- the class of a property in braces, if it has a name; `^` in front of the name turns `p` into `P` and back
unfoldable pub property_class : Bool → Text → Option Text
property_class negated [] = None
property_class negated (c ∷ name) =
    if not (c ∈ "^") then Some (named_class negated (c ∷ name))
    else if is_empty name then None
    else Some (named_class (not negated) name)

-- after `\p` or `\P`: one character, or a name in braces
unfoldable pub property : Bool → Text → Text → ParseOutcome (Escape × Text)
property negated here [] = fail_at unclosed_unicode_name here
property negated here (c ∷ t) =
    if not (c ∈ "{") then Ok (class_escape (0x5C ∷ property_letter negated ∷ c ∷ []), t)
    else (elim (split_once 0x7D t) [
      | None ↦ fail_at unclosed_unicode_name here
      | Some found ↦ elim (property_class negated found.0) [
        | None ↦ fail_at unclosed_unicode_name here
        | Some name ↦ Ok (class_escape name, found.1)
      ]
    ])

-- after `\b`: one of two names of half boundaries in braces, or nothing
unfoldable pub half_boundary : Text → AssertionEscape × Text
half_boundary t =
    elim (strip_prefix (codes "{start-half}") t) [
      | Some rest ↦ (LeftWordHalfBoundary, rest)
      | None ↦
          elim (strip_prefix (codes "{end-half}") t) [ Some rest ↦ (RightWordHalfBoundary, rest) | None ↦ (WordBoundary, t) ]
    ]

-- after `\b`: one of four names in braces, or nothing
unfoldable pub boundary : Text → AssertionEscape × Text
boundary t =
    elim (strip_prefix (codes "{start}") t) [
      | Some rest ↦ (LeftWordBoundary, rest)
      | None ↦
          elim (strip_prefix (codes "{end}") t) [ Some rest ↦ (RightWordBoundary, rest) | None ↦ half_boundary t ]
    ]

-- the reference up to and with a closing character, and the rest; `here` is the text from the start of the construct on
unfoldable pub delimited_reference : Bool → ℕ → Text → Text → ParseOutcome (Referred × Text)
delimited_reference allow_level close here t =
    elim (split_once close t) [
      | None ↦ fail_at invalid_group_name here
      | Some found ↦ elim (reference allow_level found.0) [ None ↦ fail_at invalid_group_name here | Some r ↦ Ok (r, found.1) ]
    ]

-- after `\k` or `\g`: a reference in `<..>` or `'..'`
unfoldable pub bracketed_reference : Bool → Text → Text → ParseOutcome (Referred × Text)
bracketed_reference allow_level here [] = fail_at invalid_group_name here
bracketed_reference allow_level here (c ∷ t) =
    if c ∈ "<" then delimited_reference allow_level 0x3E here t
    else if c ∈ "'" then delimited_reference allow_level 0x27 here t
    else fail_at invalid_group_name here

-- the back reference by leading decimal digits, and the rest; None without a digit
unfoldable pub numbered_reference : Text → Option (Escape × Text)
numbered_reference t = elim (digits t).0 [ None ↦ None | Some n ↦ Some (reference_escape (by_number n) None, (digits t).1) ]

-- the escape of the character c; t is the text after it
unfoldable pub single : Bool → Text → ℕ → Text → ParseOutcome (Escape × Text)
single oniguruma here c t =
    elim (one_letter oniguruma c) [ None ↦ fail_at (invalid_escape (0x5C ∷ c ∷ [])) here | Some e ↦ Ok (e, t) ]

-- the escape from after its backslash, with which `here` starts, and the rest
unfoldable pub after_backslash : Bool → Text → Text → ParseOutcome (Escape × Text)
after_backslash oniguruma here [] = fail_at trailing_backslash here
after_backslash oniguruma here (c ∷ t) =
    if c ∈ "x" then hex 2 here t
    else if c ∈ "u" then hex 4 here t
    else if c ∈ "U" then hex 8 here t
    else if c ∈ "p" then property false here t
    else if c ∈ "P" then property true here t
    else if c ∈ "b" then Ok (assertion_escape (boundary t).0, (boundary t).1)
    else if c ∈ "k" then (bracketed_reference true here t >>= λ r. Ok (reference_escape r.0.0 r.0.1, r.1))
    else if c ∈ "g" then (bracketed_reference false here t >>= λ r. Ok (call_escape r.0.0, r.1))
    else (elim (numbered_reference (c ∷ t)) [ Some found ↦ Ok found | None ↦ single oniguruma here c t ])

-- the escape that the text starts with, and the rest; its first character is taken to be a backslash
unfoldable pub escape : Bool → Text → ParseOutcome (Escape × Text)
escape oniguruma [] = fail_at trailing_backslash []
escape oniguruma (c ∷ t) = after_backslash oniguruma (c ∷ t) t

-- escapes of the code, with texts as characters
abbrev pub class_of : EscapedClass → Text
class_of (class.Perl c) = 0x5C ∷ c ∷ []
class_of class.HexDigit = codes "[0-9A-Fa-f]"
class_of class.NotHexDigit = codes "[^0-9A-Fa-f]"
class_of (class.OneLetter negated c) = 0x5C ∷ property_letter negated ∷ c ∷ []
class_of (class.Named negated name) = named_class negated (chars name.now)

abbrev pub escape_of : declared.Escape → Escape
escape_of (token.Character c) = char_escape c
escape_of (token.Byte b) = byte_escape b
escape_of (token.Class t) = class_escape (class_of t)
escape_of (token.Any newline) = any_escape newline
escape_of token.GeneralNewline = newline_escape
escape_of (token.Assertion a) = assertion_escape a
escape_of token.ContinueFromPreviousMatchEnd = continue_escape
escape_of token.KeepOut = keep_out_escape
escape_of (token.BackReference r) = reference_escape (named_of r.target) r.level
escape_of (token.Call t) = call_escape (named_of t)
