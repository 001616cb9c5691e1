-- Escapes. The relations take the text after the backslash, the escape, and the rest.
use Rattle.std.specs.Prelude.{◌≡◌, ◌≢◌, ◌<◌, ◌≤◌, ℕ, ℤ, Bool, true, false, [], ◌∷◌, ◌++◌, Option, None, codes}
use Rattle.std.specs.Char.{is_ascii_alphabetic}
use Rattle.fancy_regex_text.specs.Text.{Text, ◌∈◌, is_decimal, is_hexadecimal, value}
use Rattle.fancy_regex_text.specs.Names.{Named, by_number, Referred}
use Rattle.fancy_regex_text.specs.ParseFault.{Kind, trailing_backslash, invalid_escape, unclosed_unicode_name, invalid_hex, invalid_codepoint_value, invalid_group_name}
use Rattle.fancy_regex_lex.specs.Escapes.{Escape, char_escape, byte_escape, class_escape, any_escape, newline_escape, assertion_escape, continue_escape, keep_out_escape, reference_escape, call_escape, escape, delimited_reference}
use Rattle.fancy_regex_lex.specs.declared.token.AssertionEscape.{AssertionEscape}
use Rattle.fancy_regex_lex.specs.declared.token.AssertionEscape.TheVariants.{TextStart, TextEnd, TextEndOrNewlines, WordBoundary, NotWordBoundary, LeftWordBoundary, RightWordBoundary, LeftWordHalfBoundary, RightWordHalfBoundary}
use Rattle.fancy_regex_lex_grammar.specs.Exact.{ReadsExactly, FailsAt}
use Rattle.fancy_regex_lex_grammar.specs.Prefixes.{IsRun, IsRunOfLength, IsTextUntil}
use Rattle.fancy_regex_lex_grammar.specs.Names.{IsNumber, IsReference}

-- the letters of the escapes `\d \D \w \W \s \S`, which stay class escapes
pub data IsClassLetter : ℕ → Type 0 where
  digit : IsClassLetter 0x64
  not_digit : IsClassLetter 0x44
  word : IsClassLetter 0x77
  not_word : IsClassLetter 0x57
  white_space : IsClassLetter 0x73
  not_white_space : IsClassLetter 0x53

-- an escape of one character after the backslash
pub data IsCharacterEscape (oniguruma : Bool) : ℕ → Escape → Type 0 where
  bell : IsCharacterEscape oniguruma 0x61 (char_escape 0x07)
  escape_character : IsCharacterEscape oniguruma 0x65 (char_escape 0x1B)
  form_feed : IsCharacterEscape oniguruma 0x66 (char_escape 0x0C)
  newline : IsCharacterEscape oniguruma 0x6E (char_escape 0x0A)
  carriage_return : IsCharacterEscape oniguruma 0x72 (char_escape 0x0D)
  tab : IsCharacterEscape oniguruma 0x74 (char_escape 0x09)
  vertical_tab : IsCharacterEscape oniguruma 0x76 (char_escape 0x0B)
  class_letter : {c : ℕ} → IsClassLetter c → IsCharacterEscape oniguruma c (class_escape (0x5C ∷ c ∷ []))
  hex_digit : IsCharacterEscape oniguruma 0x68 (class_escape (codes "[0-9A-Fa-f]"))
  not_hex_digit : IsCharacterEscape oniguruma 0x48 (class_escape (codes "[^0-9A-Fa-f]"))
  any_but_newline : IsCharacterEscape oniguruma 0x4E (any_escape false)
  any_character : IsCharacterEscape oniguruma 0x4F (any_escape true)
  general_newline : IsCharacterEscape oniguruma 0x52 newline_escape
  text_start : IsCharacterEscape oniguruma 0x41 (assertion_escape TextStart)
  text_end : IsCharacterEscape oniguruma 0x7A (assertion_escape TextEnd)
  text_end_or_newlines : IsCharacterEscape oniguruma 0x5A (assertion_escape TextEndOrNewlines)
  not_word_boundary : IsCharacterEscape oniguruma 0x42 (assertion_escape NotWordBoundary)
  left_word_boundary : oniguruma ≡ false → IsCharacterEscape oniguruma 0x3C (assertion_escape LeftWordBoundary)
  right_word_boundary : oniguruma ≡ false → IsCharacterEscape oniguruma 0x3E (assertion_escape RightWordBoundary)
  continue_from_previous_match_end : IsCharacterEscape oniguruma 0x47 continue_escape
  keep_out : IsCharacterEscape oniguruma 0x4B keep_out_escape
  left_angle : oniguruma ≡ true → IsCharacterEscape oniguruma 0x3C (char_escape 0x3C)
  right_angle : oniguruma ≡ true → IsCharacterEscape oniguruma 0x3E (char_escape 0x3E)
  -- neither letter, digit nor angle
  itself : {c : ℕ} → is_ascii_alphabetic c ≡ false → is_decimal c ≡ false → c ∈ "<>" ≡ false → IsCharacterEscape oniguruma c (char_escape c)

-- the names in braces after `\b`
pub data IsBoundaryName : Text → AssertionEscape → Type 0 where
  start : IsBoundaryName (codes "{start}") LeftWordBoundary
  end : IsBoundaryName (codes "{end}") RightWordBoundary
  start_half : IsBoundaryName (codes "{start-half}") LeftWordHalfBoundary
  end_half : IsBoundaryName (codes "{end-half}") RightWordHalfBoundary

-- a Unicode scalar value: no surrogate, and at most 10FFFF
pub data IsCodePoint : ℕ → Type 0 where
  below_surrogates : {code : ℕ} → code < 0xD800 → IsCodePoint code
  above_surrogates : {code : ℕ} → 0xE000 ≤ code → code ≤ 0x10_FFFF → IsCodePoint code

-- one to eight hexadecimal digits and `}`, and their value
pub data IsBracedHex : Text → ℕ → Text → Type 0 where
  braced_hex : {t digits rest : Text} {n : ℕ} → IsTextUntil 0x7D t digits rest → IsRunOfLength is_hexadecimal n digits digits [] → 1 ≤ n → n ≤ 8 →
      IsBracedHex t (value 16 digits) rest

-- the value of exactly n hexadecimal digits, or of digits in braces
pub data IsHex (n : ℕ) : Text → ℕ → Text → Type 0 where
  plain : {t digits rest : Text} → IsRunOfLength is_hexadecimal n t digits rest → IsHex n t (value 16 digits) rest
  in_braces : {t rest : Text} {code : ℕ} → IsBracedHex t code rest → IsHex n (0x7B ∷ t) code rest

-- the letters before a hexadecimal code point, and the number of digits without braces
pub data IsHexLetter : ℕ → ℕ → Type 0 where
  two_digits : IsHexLetter 0x78 2
  four_digits : IsHexLetter 0x75 4
  eight_digits : IsHexLetter 0x55 8

-- a letter of property escapes, and the letter of the negated property
pub data IsPropertyLetter : ℕ → ℕ → Type 0 where
  has : IsPropertyLetter 0x70 0x50
  has_not : IsPropertyLetter 0x50 0x70

-- a reference up to a closing character
pub record IsClosedReference (allow_level : Bool) (close : ℕ) (t : Text) (target : Named) (level : Option ℤ) (rest : Text) : Type 0 where
  pub text : Text
  pub parted : IsTextUntil close t text rest
  pub reference : IsReference allow_level text target level

-- a reference in `<..>` or `'..'`
pub data IsBracketed (allow_level : Bool) : Text → Named → Option ℤ → Text → Type 0 where
  in_angles : {t rest : Text} {target : Named} {level : Option ℤ} → IsClosedReference allow_level 0x3E t target level rest →
      IsBracketed allow_level (0x3C ∷ t) target level rest
  in_quotes : {t rest : Text} {target : Named} {level : Option ℤ} → IsClosedReference allow_level 0x27 t target level rest →
      IsBracketed allow_level (0x27 ∷ t) target level rest

module _ (oniguruma : Bool) where
  -- an escape
  pub data IsEscape : Text → Escape → Text → Type 0 where
    a_sign : {c : ℕ} {t : Text} {e : Escape} → IsCharacterEscape oniguruma c e → IsEscape (c ∷ t) e t
    -- `\xHH` above 7F
    a_byte : {t digits rest : Text} → IsRunOfLength is_hexadecimal 2 t digits rest → 0x7F < value 16 digits →
        IsEscape (0x78 ∷ t) (byte_escape (value 16 digits)) rest
    -- `\xHH` up to 7F
    ascii : {t digits rest : Text} → IsRunOfLength is_hexadecimal 2 t digits rest → value 16 digits ≤ 0x7F →
        IsEscape (0x78 ∷ t) (char_escape (value 16 digits)) rest
    -- `\uHHHH`, `\UHHHHHHHH`
    four_or_eight : {c n : ℕ} {t digits rest : Text} → IsHexLetter c n → n ≢ 2 → IsRunOfLength is_hexadecimal n t digits rest →
        IsCodePoint (value 16 digits) → IsEscape (c ∷ t) (char_escape (value 16 digits)) rest
    -- `\x{H..}`, `\u{H..}`, `\U{H..}`
    code_in_braces : {c n code : ℕ} {t rest : Text} → IsHexLetter c n → IsBracedHex t code rest → IsCodePoint code →
        IsEscape (c ∷ 0x7B ∷ t) (char_escape code) rest
    -- `\pX`, `\PX`
    property_of_one_letter : {p other c : ℕ} {t : Text} → IsPropertyLetter p other → c ≢ 0x7B →
        IsEscape (p ∷ c ∷ t) (class_escape (0x5C ∷ p ∷ c ∷ [])) t
    -- `\p{x}`, `\P{x}`
    property : {p other c : ℕ} {t name rest : Text} → IsPropertyLetter p other → IsTextUntil 0x7D t (c ∷ name) rest → c ≢ 0x5E →
        IsEscape (p ∷ 0x7B ∷ t) (class_escape (0x5C ∷ p ∷ codes "{" ++ (c ∷ name) ++ codes "}")) rest
    -- `\p{^x}`, `\P{^x}`
    negated_property : {p other c : ℕ} {t name rest : Text} → IsPropertyLetter p other → IsTextUntil 0x7D t (0x5E ∷ c ∷ name) rest →
        IsEscape (p ∷ 0x7B ∷ t) (class_escape (0x5C ∷ other ∷ codes "{" ++ (c ∷ name) ++ codes "}")) rest
    named_boundary : {name rest : Text} {place : AssertionEscape} → IsBoundaryName name place → IsEscape (0x62 ∷ name ++ rest) (assertion_escape place) rest
    -- `\b` without such a name: a brace after it is not part of the escape
    word_boundary : {t : Text} → ((name rest : Text) (place : AssertionEscape) → IsBoundaryName name place → t ≢ name ++ rest) →
        IsEscape (0x62 ∷ t) (assertion_escape WordBoundary) t
    numbered_reference : {t digits rest : Text} {n : ℕ} → IsRun is_decimal t digits rest → IsNumber digits n →
        IsEscape t (reference_escape (by_number n) None) rest
    back_reference : {t rest : Text} {target : Named} {level : Option ℤ} → IsBracketed true t target level rest →
        IsEscape (0x6B ∷ t) (reference_escape target level) rest
    call : {t rest : Text} {target : Named} {level : Option ℤ} → IsBracketed false t target level rest → IsEscape (0x67 ∷ t) (call_escape target) rest

  -- the errors of escapes; the position of each is that of the backslash
  pub data EscapeFails : Text → Kind → Type 0 where
    nothing_after : EscapeFails [] trailing_backslash
    no_escape : {c : ℕ} {t : Text} → is_ascii_alphabetic c ≡ true → c ∈ "xuUpPbkg" ≡ false → ((e : Escape) → IsCharacterEscape oniguruma c e → ⊥) →
        EscapeFails (c ∷ t) (invalid_escape (0x5C ∷ c ∷ []))
    no_code : {c n : ℕ} {t : Text} → IsHexLetter c n → ((code : ℕ) (rest : Text) → IsHex n t code rest → ⊥) → EscapeFails (c ∷ t) invalid_hex
    no_character : {c n code : ℕ} {t rest : Text} → IsHexLetter c n → IsHex n t code rest → (IsCodePoint code → ⊥) →
        EscapeFails (c ∷ t) invalid_codepoint_value
    property_at_end : {p other : ℕ} → IsPropertyLetter p other → EscapeFails (p ∷ []) unclosed_unicode_name
    property_without_brace : {p other : ℕ} {t : Text} → IsPropertyLetter p other → ((name rest : Text) → IsTextUntil 0x7D t name rest → ⊥) →
        EscapeFails (p ∷ 0x7B ∷ t) unclosed_unicode_name
    property_without_name : {p other : ℕ} {t rest : Text} → IsPropertyLetter p other → IsTextUntil 0x7D t [] rest →
        EscapeFails (p ∷ 0x7B ∷ t) unclosed_unicode_name
    negated_property_without_name : {p other : ℕ} {t rest : Text} → IsPropertyLetter p other → IsTextUntil 0x7D t (0x5E ∷ []) rest →
        EscapeFails (p ∷ 0x7B ∷ t) unclosed_unicode_name
    no_reference : {t : Text} → ((target : Named) (level : Option ℤ) (rest : Text) → IsBracketed true t target level rest → ⊥) →
        EscapeFails (0x6B ∷ t) invalid_group_name
    no_call : {t : Text} → ((target : Named) (level : Option ℤ) (rest : Text) → IsBracketed false t target level rest → ⊥) →
        EscapeFails (0x67 ∷ t) invalid_group_name

abbrev pub EscapesAreExact : Type 0
EscapesAreExact = (oniguruma : Bool) (t : Text) →
    ReadsExactly (escape oniguruma (0x5C ∷ t)) (λ (r : Escape × Text). IsEscape oniguruma t r.0 r.1) (FailsAt (EscapeFails oniguruma t) (0x5C ∷ t))

-- A reference up to a closing character. `here` is the text from the beginning of the construct on, the position of an error.
abbrev pub ClosedReferencesAreExact : Type 0
ClosedReferencesAreExact = (allow_level : Bool) (close : ℕ) (here t : Text) →
    ReadsExactly (delimited_reference allow_level close here t) (λ (r : Referred × Text). IsClosedReference allow_level close t r.0.0 r.0.1 r.1)
    (FailsAt (λ kind. (kind ≡ invalid_group_name) × ((target : Named) (level : Option ℤ) (rest : Text) → IsClosedReference allow_level close t target level rest → ⊥)) here)
