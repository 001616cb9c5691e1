-- Bracketed classes: the text of the class for the class parser of `regex`, with its escapes replaced.
use Rattle.std.specs.Prelude.{◌≡◌, ℕ, zero, suc, ◌+◌, Bool, true, false, not, [], ◌∷◌, ◌++◌, length, drop, Option, Some, None, Ok, if◌then◌else◌, codes}
use Rattle.fancy_regex_text.specs.Text.{Text, ◌∈◌, strip_prefix}
use Rattle.fancy_regex_text.specs.ParseFault.{ParseOutcome, ◌>>=◌, prepend, fail_at, invalid_class}
use Rattle.fancy_regex_lex.specs.Escapes.{Escape, char_escape, class_escape, escape}

-- the character must be escaped in a class to be literal
abbrev pub is_quoted : ℕ → Bool
is_quoted c = c ∈ "\\.+*?()|[]{}^$#&-~"

-- a literal character of a class, with a backslash if it needs one
unfoldable pub quoted : ℕ → Text
quoted c = if is_quoted c then 0x5C ∷ c ∷ [] else c ∷ []

-- the text of an escape in a class: a character or a class; None for any other escape
unfoldable pub escaped_text : Escape → Option Text
escaped_text (char_escape c) = Some (quoted c)
escaped_text (class_escape t) = Some t
escaped_text _ = None

-- `added` is whether there is a text to append; if so, `new` is `old` with it appended.
abbrev pub IsAdded : Bool → Text → Text → Option Text → Type 0
IsAdded added old new None = added ≡ false
IsAdded added old new (Some t) = (added ≡ true) × (new ≡ old ++ t)

-- the escape that `here` starts with, in a class: its text, and the rest
unfoldable pub class_escape_at : Bool → Text → ParseOutcome (Text × Text)
class_escape_at oniguruma here = do
  (found, rest) ← escape oniguruma here
  elim (escaped_text found) [ None ↦ fail_at invalid_class here | Some t ↦ Ok (t, rest) ]

-- one item of a class, an escape, of which `\b` is 08, or a character: its text, and the rest
unfoldable pub class_part : Bool → Text → ParseOutcome (Text × Text)
class_part oniguruma [] = fail_at invalid_class []
class_part oniguruma (c ∷ t) =
    if not (c ∈ "\\") then Ok (c ∷ [], t)
    else (elim (strip_prefix (codes "b") t) [ Some rest ↦ Ok (0x08 ∷ [], rest) | None ↦ class_escape_at oniguruma (c ∷ t) ])

-- The nesting level after the first character: how many nested brackets are open. None if it closes the whole class.
unfoldable pub nesting_after : ℕ → Text → Option ℕ
nesting_after level [] = Some level
nesting_after level (c ∷ t) =
    if c ∈ "[" then Some (level + 1)
    else if c ∈ "]" then (elim level [ zero ↦ None | suc outer ↦ Some outer ])
    else Some level

-- The items up to and with the closing bracket: their text, and the rest. `level` is the number of nested brackets that are
-- open. The first number bounds the items, each of which reads a character.
unfoldable pub class_parts : Bool → ℕ → ℕ → Text → ParseOutcome (Text × Text)
class_parts oniguruma zero level t = fail_at invalid_class t
class_parts oniguruma (suc n) level t = do
  (part, rest) ← class_part oniguruma t
  elim (nesting_after level t) [
    | None ↦ Ok (part, rest)
    | Some next ↦ prepend part (class_parts oniguruma n next rest)
  ]

-- this word if the text starts with it, else nothing; and the rest
abbrev pub optional : Text → Text → Text × Text
optional word t = elim (strip_prefix word t) [ Some rest ↦ (word, rest) | None ↦ ([], t) ]

-- the text of the class whose opening bracket is first, and the rest after it; `^` and one `]` are allowed before the items
unfoldable pub bracketed_class : Bool → Text → ParseOutcome (Text × Text)
bracketed_class oniguruma here =
    let caret = optional (codes "^") (drop 1 here) in
    let bracket = optional (codes "]") caret.1 in
    prepend (0x5B ∷ caret.0 ++ bracket.0) (class_parts oniguruma (length bracket.1 + 1) 0 bracket.1)
