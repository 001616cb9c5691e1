-- Group names, numbers and references.
use Rattle.std.specs.Prelude.{◌≡◌, ◌↔◌, ◌-◌, ◌^◌, ℕ, ℤ, pos, neg_ℤ, min, Bool, true, [], ◌∷◌, ◌++◌, Option, Some, None}
use Rattle.ucd_derived.specs.Binary.{is_alphabetic}
use Rattle.ucd_category.specs.GeneralCategory.{general_category}
use Rattle.ucd_category.specs.declared.GeneralCategory.TheVariants.{DecimalNumber, LetterNumber, OtherNumber}
use Rattle.fancy_regex_text.specs.Text.{Text, is_decimal, value, unbounded}
use Rattle.fancy_regex_text.specs.Names.{Named, by_number, by_name, relative, Referred, is_name, digits, whole_number, signed, reference}
use Rattle.fancy_regex_lex_grammar.specs.Exact.{FindsExactly}
use Rattle.fancy_regex_lex_grammar.specs.Prefixes.{IsRun}

-- a character of a group name
pub data IsNameCharacter : ℕ → Type 0 where
  underscore : IsNameCharacter 0x5F
  alphabetic : {c : ℕ} → is_alphabetic c ≡ true → IsNameCharacter c
  decimal_number : {c : ℕ} → general_category c ≡ DecimalNumber → IsNameCharacter c
  letter_number : {c : ℕ} → general_category c ≡ LetterNumber → IsNameCharacter c
  other_number : {c : ℕ} → general_category c ≡ OtherNumber → IsNameCharacter c

-- a group name: one or more name characters
pub data IsName : Text → Type 0 where
  last_of_name : {c : ℕ} → IsNameCharacter c → IsName (c ∷ [])
  more_of_name : {c : ℕ} {t : Text} → IsNameCharacter c → IsName t → IsName (c ∷ t)

-- one or more decimal digits
pub data IsDigits : Text → Type 0 where
  last_digit : {c : ℕ} → is_decimal c ≡ true → IsDigits (c ∷ [])
  more_digits : {c : ℕ} {t : Text} → is_decimal c ≡ true → IsDigits t → IsDigits (c ∷ t)

-- a decimal number; it saturates at the largest `usize`
pub data IsNumber : Text → ℕ → Type 0 where
  a_number : {t : Text} → IsDigits t → IsNumber t (min (value 10 t) unbounded)

-- a decimal number with a sign; it saturates at the ends of `isize`
pub data IsSigned : Text → ℤ → Type 0 where
  forward : {t : Text} → IsDigits t → IsSigned (0x2B ∷ t) (pos (min (value 10 t) (2 ^ 63 - 1)))
  backward : {t : Text} → IsDigits t → IsSigned (0x2D ∷ t) (neg_ℤ (pos (min (value 10 t) (2 ^ 63))))

-- a number, or else a name; digits alone are a number
pub data IsNumberOrName : Text → Named → Type 0 where
  number : {t : Text} {n : ℕ} → IsNumber t n → IsNumberOrName t (by_number n)
  name : {t : Text} → IsName t → (IsDigits t → ⊥) → IsNumberOrName t (by_name t)

-- The target of a reference and its recursion level: a number or a name, followed by a level where `allow_level`, or a relative number.
pub data IsReference (allow_level : Bool) : Text → Named → Option ℤ → Type 0 where
  without_level : {t : Text} {target : Named} → IsNumberOrName t target → IsReference allow_level t target None
  with_level : {front t : Text} {target : Named} {level : ℤ} → allow_level ≡ true → IsNumberOrName front target → IsSigned t level →
      IsReference allow_level (front ++ t) target (Some level)
  signed_number : {t : Text} {k : ℤ} → IsSigned t k → IsReference allow_level t (relative k) None

-- the number of the longest run of digits at the beginning, None without a digit, and the rest
pub data IsLeadingNumber : Text → Option ℕ → Text → Type 0 where
  no_digits : {t : Text} → IsRun is_decimal t [] t → IsLeadingNumber t None t
  some_digits : {t front rest : Text} {n : ℕ} → IsRun is_decimal t front rest → IsNumber front n → IsLeadingNumber t (Some n) rest

-- The functions for names and numbers return exactly what the relations describe.
pub record NamesAreExact : Type 0 where
  pub of_name : (t : Text) → (is_name t ≡ true) ↔ IsName t
  pub of_number : (t : Text) → FindsExactly (whole_number t) (IsNumber t)
  pub of_signed : (t : Text) → FindsExactly (signed t) (IsSigned t)
  pub of_digits : (t : Text) (n : Option ℕ) (rest : Text) → (digits t ≡ (n, rest)) ↔ IsLeadingNumber t n rest
  pub of_reference : (allow_level : Bool) (t : Text) → FindsExactly (reference allow_level t) (λ (r : Referred). IsReference allow_level t r.0 r.1)
