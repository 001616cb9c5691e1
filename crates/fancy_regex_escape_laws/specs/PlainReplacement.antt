-- The replaced text of a pattern that matches a plain text.
use Rattle.std.specs.Prelude.{◌≡◌, ◌≢◌, List, [], ℕ}
use Rattle.fancy_regex_meaning.specs.Groups.{Pattern}
use Rattle.fancy_regex_meaning.specs.Ways.{Setting}
use Rattle.fancy_regex_meaning.specs.Searches.{Options, all_items, input_of, replaced}
use Rattle.fancy_regex_escape_laws.specs.Occurrences.{plain_replaced}
use Rattle.fancy_regex_escape_laws.specs.PlainSearch.{IsPlainSearch}

-- Where each match of a search for a needle is replaced by the same text, each occurrence of the needle is, from the left and
-- without overlap.
abbrev pub MatchesAreReplacedPlainly : Type 0
MatchesAreReplacedPlainly = (pattern : Pattern) (needle replacement : List ℕ) → needle ≢ [] → IsPlainSearch pattern needle →
    (s : Setting) (options : Options) →
    replaced s.text (λ _. replacement) 0 (all_items s pattern options (input_of s.text)) ≡ plain_replaced needle replacement s.text
