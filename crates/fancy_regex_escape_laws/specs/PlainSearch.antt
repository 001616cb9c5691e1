-- Patterns that match a plain text, the needle, and nothing else. A needle is given by its bytes.
use Rattle.std.specs.Prelude.{◌≡◌, ◌≢◌, ℕ, ◌+◌, Bool, true, false, List, [], ◌∷◌, length, drop, Option, Some, None, option_map, nat_eq, slice_range, encode_utf8_all, if◌then◌else◌}
use Rattle.std.specs.List.{starts_with}
use Rattle.std.specs.Str.{all_scalars}
use Rattle.fancy_regex_tree.specs.Tree.{Text, Tree}
use Rattle.fancy_regex_meaning.specs.Groups.{Pattern, pattern_of}
use Rattle.fancy_regex_meaning.specs.Ways.{MatchState, Setting, Moves, with_position, ways}
use Rattle.fancy_regex_meaning.specs.Searches.{Match, Options, Search, Input, match_at, search_from}
use Rattle.fancy_regex_escape_laws.specs.Literals.{plain_tree}
use Rattle.fancy_regex_escape_laws.specs.Occurrences.{first_occurrence}

-- past the needle, if the text goes on with it, and else nowhere
abbrev pub past_needle : List ℕ → List ℕ → Moves
past_needle text needle w =
    if starts_with nat_eq (drop w.position text) needle then with_position w (w.position + length needle) ∷ [] else []

-- the match of the needle at an offset; its groups are the whole alone, whose pair is not set here
abbrev pub plain_match : List ℕ → ℕ → Match
plain_match needle p = record { start = p; end = p + length needle; pairs = None ∷ [] }

-- the match at the offset, if the needle occurs there and ends at or before `stop`
abbrev pub match_if_there : List ℕ → List ℕ → ℕ → ℕ → Option Match
match_if_there text needle stop p = if starts_with nat_eq (slice_range text p stop) needle then Some (plain_match needle p) else None

-- the match of the first occurrence that starts at or after the offset and ends at or before `stop`
abbrev pub first_plain_match : List ℕ → List ℕ → ℕ → ℕ → Option Match
first_plain_match text needle stop from = option_map (λ k. plain_match needle (from + k)) (first_occurrence needle (slice_range text from stop))

-- The pattern matches the needle where it occurs, and nothing else, in every text and with all options of a search.
pub record IsPlainSearch (pattern : Pattern) (needle : List ℕ) : Type 0 where
  -- from each state there is one way, past the needle, or none
  pub one_way : (s : Setting) (groups : List Tree) (n : ℕ) (w : MatchState) → ways s groups n pattern.tree w ≡ past_needle s.text needle w
  -- the match of an attempt at an offset
  pub attempt : (s : Setting) (find : Search) (p : ℕ) → match_at s pattern find p ≡ match_if_there s.text needle find.stop p
  -- the match of a search from an offset
  pub search : (s : Setting) (options : Options) (input : Input) (from : ℕ) (off : Bool) → input.anchored ≡ false →
      search_from s pattern options input from off ≡ first_plain_match s.text needle input.range_end from
  -- the match of an anchored search
  pub anchored : (s : Setting) (options : Options) (input : Input) (from : ℕ) (off : Bool) → input.anchored ≡ true →
      search_from s pattern options input from off ≡ match_if_there s.text needle input.range_end from

-- the tree of the characters of a text that is not empty matches the text
abbrev pub PlainTreesArePlainSearches : Type 0
PlainTreesArePlainSearches = (t : Text) → all_scalars t ≡ true → t ≢ [] → IsPlainSearch (pattern_of (plain_tree t)) (encode_utf8_all t)
