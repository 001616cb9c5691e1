-- The names of the groups of a regex, line by line.
use Rattle.std.specs.Prelude.{ℕ, zero, suc, ◌+◌, List, [], ◌∷◌, ◌++◌, Option, Some, None, encode_utf8_all}
use Rattle.fancy_regex_tree.specs.Numbering.{Names}
use Rattle.fancy_regex_search.specs.GroupNames.{name_at}

-- the line of a name: its characters in UTF-8, and a newline
abbrev pub name_line : Option (List ℕ) → List ℕ
name_line None = 10 ∷ []
name_line (Some name) = encode_utf8_all name ++ 10 ∷ []

-- the lines of so many groups, from the one with this number on
abbrev pub name_lines : Names → ℕ → ℕ → List ℕ
name_lines names zero k = []
name_lines names (suc n) k = name_line (name_at names k) ++ name_lines names n (k + 1)
