-- What a search hands over of a match.
use Rattle.std.specs.Prelude.{ℕ, List, [], slice_index}
use Rattle.fancy_regex_meaning.specs.Groups.{Pattern}
use Rattle.fancy_regex_meaning.specs.Searches.{Match}
use Rattle.fancy_regex_class.specs.RunInputs.{match_slots}
use Rattle.fancy_regex_meta.specs.declared.found.FoundMatch.{FoundMatch}
use Rattle.fancy_regex_meta.specs.declared.found.MatchDetail.{MatchDetail}
use Rattle.fancy_regex_meta.specs.declared.found.MatchDetail.TheVariants.{Span, Groups}

-- these offsets, where those of groups are wanted
abbrev pub if_groups : MatchDetail → List ℕ → List ℕ
if_groups Span slots = []
if_groups Groups slots = slots

-- the offsets of the groups of a match, where they are wanted
abbrev pub wanted_groups : MatchDetail → Pattern → Match → List ℕ
wanted_groups wanted pattern m = if_groups wanted (match_slots pattern m)

-- the start and the end of a match, and what is wanted of its groups
abbrev pub wanted_parts : MatchDetail → Pattern → Match → ℕ × (ℕ × List ℕ)
wanted_parts wanted pattern m = (m.start, (m.end, wanted_groups wanted pattern m))

-- the same of the offsets of all groups, which begin with the span
abbrev pub parts_in : List ℕ → ℕ × (ℕ × List ℕ)
parts_in slots = (slice_index slots 0, (slice_index slots 1, slots))

-- the same of what a search found
abbrev pub found_parts : FoundMatch → ℕ × (ℕ × List ℕ)
found_parts found = (found.start, (found.end, found.groups.items))
