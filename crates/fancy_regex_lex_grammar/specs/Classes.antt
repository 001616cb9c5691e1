-- Bracketed classes. The relations take the text after the `[`, the text of the class, and the rest.
use Rattle.std.specs.Prelude.{◌≡◌, ◌≢◌, ℕ, zero, suc, Bool, true, false, [], ◌∷◌, ◌++◌}
use Rattle.fancy_regex_text.specs.Text.{Text, ◌∈◌}
use Rattle.fancy_regex_text.specs.ParseFault.{Kind, ParseFault, invalid_class}
use Rattle.fancy_regex_lex.specs.Escapes.{Escape, char_escape, class_escape}
use Rattle.fancy_regex_lex.specs.Classes.{bracketed_class}
use Rattle.fancy_regex_lex_grammar.specs.Exact.{ReadsExactly, at}
use Rattle.fancy_regex_lex_grammar.specs.Prefixes.{IsOptional}
use Rattle.fancy_regex_lex_grammar.specs.Escapes.{IsEscape, EscapeFails}

-- a literal character in the text of a class: with a backslash where it would be special in a class
pub data IsQuoted : ℕ → Text → Type 0 where
  a_sign : {c : ℕ} → c ∈ "\\.+*?()|[]{}^$#&-~" ≡ true → IsQuoted c (0x5C ∷ c ∷ [])
  no_sign : {c : ℕ} → c ∈ "\\.+*?()|[]{}^$#&-~" ≡ false → IsQuoted c (c ∷ [])

-- the text that an escape adds to a class
pub data IsEscapeInClass : Escape → Text → Type 0 where
  a_character : {c : ℕ} {text : Text} → IsQuoted c text → IsEscapeInClass (char_escape c) text
  a_class : {text : Text} → IsEscapeInClass (class_escape text) text

module _ (oniguruma : Bool) where
  -- one item that is not a bracket
  pub data IsClassItem : Text → Text → Text → Type 0 where
    itself : {c : ℕ} {t : Text} → c ∈ "\\[]" ≡ false → IsClassItem (c ∷ t) (c ∷ []) t
    backspace : {t : Text} → IsClassItem (0x5C ∷ 0x62 ∷ t) (0x08 ∷ []) t
    escaped : {t text rest : Text} {e : Escape} → IsEscape oniguruma t e rest → IsEscapeInClass e text → IsClassItem (0x5C ∷ t) text rest

  -- the items up to and including the closing bracket; `level` nested classes are open
  pub data IsClassItems : ℕ → Text → Text → Text → Type 0 where
    closes : {t : Text} → IsClassItems zero (0x5D ∷ t) (0x5D ∷ []) t
    closes_inner : {level : ℕ} {t text rest : Text} → IsClassItems level t text rest → IsClassItems (suc level) (0x5D ∷ t) (0x5D ∷ text) rest
    opens_inner : {level : ℕ} {t text rest : Text} → IsClassItems (suc level) t text rest → IsClassItems level (0x5B ∷ t) (0x5B ∷ text) rest
    and_part : {level : ℕ} {t part after text rest : Text} → IsClassItem t part after → IsClassItems level after text rest → IsClassItems level t (part ++ text) rest

  -- a class: an optional `^`, an optional literal `]`, and the items
  pub data IsClass : Text → Text → Text → Type 0 where
    class : {t caret bracket here inside text rest : Text} → IsOptional 0x5E t caret here → IsOptional 0x5D here bracket inside →
        IsClassItems zero inside text rest → IsClass t (0x5B ∷ caret ++ bracket ++ text) rest

  -- where the items fail, and the error
  pub data ClassItemsFail : ℕ → Text → ParseFault → Type 0 where
    text_ends : {level : ℕ} → ClassItemsFail level [] (at invalid_class [])
    -- an escape that is not allowed in a class
    misplaced : {level : ℕ} {t rest : Text} {e : Escape} → IsEscape oniguruma t e rest → ((text : Text) → IsEscapeInClass e text → ⊥) →
        ((u : Text) → t ≢ 0x62 ∷ u) → ClassItemsFail level (0x5C ∷ t) (at invalid_class (0x5C ∷ t))
    -- an invalid escape
    no_escape : {level : ℕ} {t : Text} {kind : Kind} → EscapeFails oniguruma t kind → ClassItemsFail level (0x5C ∷ t) (at kind (0x5C ∷ t))
    after_closing : {level : ℕ} {t : Text} {e : ParseFault} → ClassItemsFail level t e → ClassItemsFail (suc level) (0x5D ∷ t) e
    after_opening : {level : ℕ} {t : Text} {e : ParseFault} → ClassItemsFail (suc level) t e → ClassItemsFail level (0x5B ∷ t) e
    after_part : {level : ℕ} {t part after : Text} {e : ParseFault} → IsClassItem t part after → ClassItemsFail level after e → ClassItemsFail level t e

  -- where a class fails, and the error
  pub data ClassFails : Text → ParseFault → Type 0 where
    inside_class : {t caret bracket here inside : Text} {e : ParseFault} → IsOptional 0x5E t caret here → IsOptional 0x5D here bracket inside →
        ClassItemsFail zero inside e → ClassFails t e

abbrev pub ClassesAreExact : Type 0
ClassesAreExact = (oniguruma : Bool) (t : Text) →
    ReadsExactly (bracketed_class oniguruma (0x5B ∷ t)) (λ (r : Text × Text). IsClass oniguruma t r.0 r.1) (ClassFails oniguruma t)
