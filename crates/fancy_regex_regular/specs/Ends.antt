-- Where the ways of a pattern from a place end.
use Rattle.std.specs.Prelude.{◌≡◌, ◌≤◌, ℕ, ◌&&◌, List, Option, None, Some, nat_le, option_map}
use Rattle.std.specs.List.{filter}
use Rattle.fancy_regex_meaning.specs.Groups.{Pattern}
use Rattle.fancy_regex_meaning.specs.Searches.{first_item, ways_at}
use Rattle.fancy_regex_meaning.specs.Ways.{MatchState}
use Rattle.fancy_regex_class.specs.RunInputs.{setting_for, search_for}
use Rattle.fancy_regex_class.specs.declared.input.RunInput.{RunInput}
use Rattle.fancy_regex_regular.specs.Regulars.{IsRegularOf}
use Rattle.fancy_regex_regular.specs.declared.regular.Regular.{Regular}

-- the first of these ways that ends at `least` or later, and not after `stop`
abbrev pub first_in : ℕ → ℕ → List MatchState → Option MatchState
first_in least stop ws = first_item (filter (λ w. nat_le least w.position && nat_le w.position stop) ws)

-- where it ends
abbrev pub end_in : ℕ → ℕ → List MatchState → Option ℕ
end_in least stop ws = option_map (λ w. w.position) (first_in least stop ws)

-- the ways of a pattern from a place, in a search with this input
abbrev pub ways_from : Regular → List ℕ → RunInput → Pattern → ℕ → List MatchState
ways_from regular text input pattern start = ways_at (setting_for regular.unicode text input) pattern (search_for regular.longest input) start

-- there the first of the ways from a place ends that end at `least` or later, within the range; or there is none
abbrev pub IsEndFrom : Regular → List ℕ → RunInput → ℕ → ℕ → Option ℕ → Type 0
IsEndFrom regular text input start least end = (pattern : Pattern) → IsRegularOf regular pattern
    → end ≡ end_in least input.range.end (ways_from regular text input pattern start)
