-- Which members of a set have no match at a place, by the byte there.
use Rattle.std.specs.Prelude.{◌≡◌, ⊤, ℕ, ◌≤◌, ◌<◌, Bool, List, [], ◌∷◌, Option, Some, IfSome, slice_get, IsUtf8, IsCharBoundary}
use Rattle.fancy_regex_meaning.specs.Searches.{Match}
use Rattle.fancy_regex_input.specs.declared.config.SearchConfig.{SearchConfig}
use Rattle.fancy_regex_search.specs.MemberSearches.{meta_match_at}
use Rattle.fancy_regex_search.specs.SeekTables.{marked}
use Rattle.fancy_regex_search.specs.RegexOptions.{RegexOptions}
use Rattle.fancy_regex_search.specs.declared.regex.Regex.{Regex}
use Rattle.fancy_regex.specs.StartTables.{next_of}
use Rattle.fancy_regex.specs.declared.start_table.StartTable.{StartTable}
use Rattle.fancy_regex.specs.ByteSetLaws.{FindsOnlyIn}

-- The regex has no match that starts at a place with this byte, or at the end of the text.
abbrev pub FindsNoneAt : Regex → Option ℕ → Type 0
FindsNoneAt regex byte =
    (text : List ℕ) (config : SearchConfig) (continue_at : Option ℕ) (p : ℕ) (m : Match) → IsUtf8 text → IsCharBoundary text p →
    slice_get text p ≡ byte → meta_match_at regex.meta text config continue_at p ≡ Some m → ⊥

-- The members with numbers from i on, below k, have no match at such a place.
abbrev pub FindNoneBetween : List Regex → Option ℕ → ℕ → ℕ → Type 0
FindNoneBetween regexes byte i k = (j : ℕ) → i ≤ j → j < k → (regex : Regex) → slice_get regexes j ≡ Some regex → FindsNoneAt regex byte

-- The members that the table passes over have no match at such a place, and it goes on to no earlier one.
abbrev pub PassesOver : List Regex → StartTable → Type 0
PassesOver regexes table = (byte : Option ℕ) (i : ℕ) → (i ≤ next_of table byte i) × FindNoneBetween regexes byte i (next_of table byte i)

-- of each pattern the bytes that its matches start with, if they are known
abbrev pub HaveStarts : RegexOptions → List (List ℕ) → List (Option (List Bool)) → Type 0
HaveStarts o [] [] = ⊤
HaveStarts o [] (m ∷ ms) = ⊥
HaveStarts o (p ∷ ps) [] = ⊥
HaveStarts o (p ∷ ps) (m ∷ ms) = IfSome m (λ table. FindsOnlyIn o p (marked table)) × HaveStarts o ps ms
