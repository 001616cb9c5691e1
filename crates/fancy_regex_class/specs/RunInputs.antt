-- The input of a search in terms of the definitions, and the slots of its answer.
use Rattle.std.specs.Prelude.{ℕ, Bool, false, List, [], ◌∷◌, Some, None, slice_set, if◌then◌else◌, ◌==◌}
use Rattle.fancy_regex_meaning.specs.Groups.{Pattern}
use Rattle.fancy_regex_meaning.specs.Ways.{Setting, Pairs}
use Rattle.fancy_regex_meaning.specs.Searches.{Match, Search}
use Rattle.fancy_regex_class.specs.Classes.{setting_of}
use Rattle.fancy_regex_class.specs.declared.input.RunInput.{RunInput}

-- the setting of a search with this input
abbrev pub setting_for : Bool → List ℕ → RunInput → Setting
setting_for unicode text input = record (setting_of unicode text) {
  no_start_text = input.no_start_text;
  no_end_text = input.no_end_text;
  continue_at = input.continue_at;
}

-- the search with this input that admits empty matches
abbrev pub search_for : Bool → RunInput → Search
search_for longest input = record {
  first = input.first;
  stop = input.range.end;
  anchored = input.anchored;
  options = record { find_not_empty = false; longest = longest };
}

-- two byte offsets for each group, the last value of `usize` for a group that is not set
abbrev pub group_slots : Pairs → List ℕ
group_slots [] = []
group_slots (None ∷ ps) = 18446744073709551615 ∷ 18446744073709551615 ∷ group_slots ps
group_slots (Some pair ∷ ps) = pair.0 ∷ pair.1 ∷ group_slots ps

-- the slots of a match: those of group 0 are its span, unless group 0 is explicit in the pattern
abbrev pub match_slots : Pattern → Match → List ℕ
match_slots pattern m =
    if pattern.first_group == 0 then group_slots m.pairs else slice_set (slice_set (group_slots m.pairs) 0 m.start) 1 m.end
