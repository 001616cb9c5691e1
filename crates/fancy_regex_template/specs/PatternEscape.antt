-- The text of a pattern that is meant to match a text exactly.
use Rattle.std.specs.Prelude.{ℕ, Bool, [], ◌∷◌, codes, if◌then◌else◌}
use Rattle.std.specs.List.{flat_map, list_any}
use Rattle.fancy_regex_text.specs.Text.{Text, ◌∈◌}

-- the character has a meaning of its own in patterns
abbrev pub is_special : ℕ → Bool
is_special c = c ∈ "\\.+*?()|[]{}^$#"

abbrev pub has_special : Text → Bool
has_special t = list_any is_special t

-- a character with a backslash in front if it is special, or as an escape if it is a newline, a carriage return or a tab
abbrev pub escaped_char : ℕ → Text
escaped_char c =
    if c ∈ "\n" then codes "\\n"
    else if c ∈ "\r" then codes "\\r"
    else if c ∈ "\t" then codes "\\t"
    else if is_special c then 0x5C ∷ c ∷ []
    else c ∷ []

-- a text without special characters stays as it is
abbrev pub escaped_pattern : Text → Text
escaped_pattern t = if has_special t then flat_map escaped_char t else t
