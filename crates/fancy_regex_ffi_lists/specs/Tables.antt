-- Tables that mark the bytes of a set.
use Rattle.std.specs.Prelude.{◌≡◌, ℕ, ◌<◌, ◌≤◌, Bool, true, false, List, Option, Some, None, slice_index_or, EachIndex}
use Rattle.fancy_regex_bytes.specs.ByteSets.{Bytes}
use Rattle.fancy_regex_bytes.specs.StartBytes as starts
use Rattle.fancy_regex_bytes.specs.RequiredBytes as required
use Rattle.fancy_regex.specs.Patterns.{tree_in}
use Rattle.fancy_regex.specs.RegexOptions.{RegexOptions}
use Rattle.fancy_regex.specs.ByteSetLaws.{MatchesStartIn, MatchesRequire}

-- For each byte that the table has room for, whether it is in the set. After the 256 bytes the table is as it was.
abbrev pub IsMarked : Bytes → List Bool → List Bool → Type 0
IsMarked set old new = EachIndex new (λ b. (b < 256 → slice_index_or new b false ≡ set b) × (256 ≤ b → (d : Bool) → slice_index_or new b d ≡ slice_index_or old b d))

-- The bytes that the definitions give for the starts of the matches are marked: each match starts at one. Where they give none, the
-- table is as it was.
abbrev pub AreStartsMarked : RegexOptions → List ℕ → Bool → List Bool → List Bool → Type 0
AreStartsMarked o pattern true old new =
    (set : Bytes) × (starts.start_bytes o.unicode_mode (tree_in o pattern) ≡ Some set) × MatchesStartIn o pattern set × IsMarked set old new
AreStartsMarked o pattern false old new = (starts.start_bytes o.unicode_mode (tree_in o pattern) ≡ None) × (new ≡ old)

-- The bytes that the definitions give are marked: each text with a match has all of them.
abbrev pub AreRequiredMarked : RegexOptions → List ℕ → List Bool → List Bool → Type 0
AreRequiredMarked o pattern old new =
    (set : Bytes) × (required.required_bytes (tree_in o pattern) ≡ set) × MatchesRequire o pattern set × IsMarked set old new
