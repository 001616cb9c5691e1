-- The law of programs: a run of a program returns the result of its pattern's search.
use Rattle.std.specs.Prelude.{◌≡◌, ℕ, ◌+◌, ◌*◌, ◌<◌, ◌≤◌, Bool, true, false, List, [], ◌∷◌, length, take, replicate, Option, Some, None, option_map, is_some, slice_index, if◌then◌else◌}
use Rattle.std.specs.List.{filter}
use Rattle.std.specs.Str.{IsUtf8, IsCharBoundary}
use Rattle.fancy_regex_meaning.specs.Ways.{MatchState}
use Rattle.fancy_regex_meaning.specs.Searches.{first_some, chosen, is_admitted}
use Rattle.fancy_regex_slots.specs.Memory.{Thread}
use Rattle.fancy_regex_desugar.specs.CorePatterns.{CorePattern}
use Rattle.fancy_regex_desugar.specs.CoreWays.{core_ways, core_choices}
use Rattle.fancy_regex_desugar.specs.Delegates.{tail_bound}
use Rattle.fancy_regex_desugar.specs.Shapes.{StepsBackOnlyFirst}
use Rattle.fancy_regex_program.specs.Machine.{unset, RunParameters, Ending, anchored_by, tried, run}
use Rattle.fancy_regex_program.specs.Code.{slots_in, program_of}
use Rattle.fancy_regex_program.specs.SlotLayout.{slots_of_match}
use Rattle.fancy_regex_program.specs.Shapes.{IsWritable}

-- the state at a start position q: no group is set
abbrev pub entry_way : ℕ → ℕ → MatchState
entry_way count q = record { position = q; pairs = replicate count None; match_start = q }

module _ (r : RunParameters) (p : CorePattern) (count : ℕ) where
  -- the preferred (or longest) admitted match from a start position
  abbrev pub way_at : ℕ → Option MatchState
  way_at q = chosen r.find.options.longest (filter (is_admitted r.find) (core_ways r.setting (tail_bound r.find) p (entry_way count q)))

  -- the number of choices over the start positions, up to the first that has a match: 1 for each, and the choices made from it
  abbrev pub choices_up_to : List ℕ → ℕ
  choices_up_to [] = 0
  choices_up_to (q ∷ qs) = 1 + core_choices r.setting (tail_bound r.find) p (entry_way count q) + (if is_some (way_at q) then 0 else choices_up_to qs)

-- the number of the first group of the pattern: 1 where group 0 is the whole match, else 0
abbrev pub first_group_number : Bool → ℕ
first_group_number whole = if whole then 1 else 0

-- The requirements of the law: the haystack is UTF-8, the first start position is a character boundary, the last is in the haystack, and the
-- pattern can be compiled, with `count` groups. Empty matches can be rejected only where group 0 is the whole match.
pub record RunRequirements (r : RunParameters) (p : CorePattern) (whole : Bool) (count : ℕ) : Type 0 where
  pub utf8 : IsUtf8 r.setting.text
  pub small : length r.setting.text < unset
  pub first : IsCharBoundary r.setting.text r.find.first
  pub stop : r.find.stop ≤ length r.setting.text
  pub groups : whole ≡ true → 1 ≤ count
  pub spans : r.find.options.find_not_empty ≡ true → whole ≡ true
  pub writable : IsWritable (first_group_number whole) count p
  pub placed : StepsBackOnlyFirst false p

-- the start positions that a program tries: an anchored program takes the first alone, and then asks the prefilter
abbrev pub attempted_starts : Bool → RunParameters → List ℕ
attempted_starts anchored r = tried (anchored_by anchored r)

-- A reported match: its end, its start (0 if group 0 is not the whole match), and the slots of the groups. Positions are byte offsets.
pub record FoundMatch : Type 0 where
  pub position : ℕ
  pub start : ℕ
  pub slots : List ℕ

-- the match in the first `base` slots of a thread
abbrev pub found_by_thread : Bool → ℕ → Thread → FoundMatch
found_by_thread whole base t = record {
  position = t.position;
  start = if whole then slice_index t.slots 0 else 0;
  slots = take base t.slots;
}

-- the match that a way of the definitions stands for
abbrev pub found_by_way : Bool → MatchState → FoundMatch
found_by_way whole w = record { position = w.position; start = if whole then w.match_start else 0; slots = slots_of_match whole w }

-- The result of a run: it is the match from the first start position that has one, with the spans of all groups. The number of backtracks and
-- the largest number of pending branches are at most the number of choices of the search.
pub record Answers (r : RunParameters) (p : CorePattern) (whole anchored : Bool) (count : ℕ) (e : Ending) : Type 0 where
  pub way : option_map (found_by_thread whole (2 * count)) e.answer
      ≡ option_map (found_by_way whole) (first_some (way_at r p count) (attempted_starts anchored r))
  pub few : e.backtracks ≤ choices_up_to r p count (attempted_starts anchored r)
  pub narrow : e.peak ≤ choices_up_to r p count (attempted_starts anchored r)

-- After j steps the run has ended, with that result. A run of an anchored program is anchored.
pub record Terminates (r : RunParameters) (p : CorePattern) (whole anchored : Bool) (count j : ℕ) : Type 0 where
  pub ending : Ending
  pub comes : run (program_of r.setting.has_member r.setting.fold whole anchored count p) (2 * count + slots_in p) (anchored_by anchored r) j ≡ Some ending
  pub answers : Answers r p whole anchored count ending

-- From some number of steps on, the run has ended with the result of the search.
abbrev pub ProgramsAnswerSearches : Type 0
ProgramsAnswerSearches = (r : RunParameters) (p : CorePattern) (whole anchored : Bool) (count : ℕ) → RunRequirements r p whole count →
    (n : ℕ) × ((j : ℕ) → n ≤ j → Terminates r p whole anchored count j)
