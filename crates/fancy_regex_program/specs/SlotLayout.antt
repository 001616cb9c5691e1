-- The slots of the groups at a way.
use Rattle.std.specs.Prelude.{ℕ, Bool, List, slice_set, if◌then◌else◌}
use Rattle.fancy_regex_meaning.specs.Ways.{MatchState}
use Rattle.fancy_regex_class.specs.RunInputs.{group_slots}

-- The slots of the groups at a way. Where group 0 is the whole, its first slot holds the match start.
abbrev pub slots_of_way : Bool → MatchState → List ℕ
slots_of_way whole w = if whole then slice_set (group_slots w.pairs) 0 w.match_start else group_slots w.pairs

-- the slots at the end of the whole match
abbrev pub slots_of_match : Bool → MatchState → List ℕ
slots_of_match whole w = if whole then slice_set (slots_of_way whole w) 1 w.position else slots_of_way whole w
