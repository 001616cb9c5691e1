-- Walks along the attempt that finds a match, and what their slots tell.
use Rattle.std.specs.Prelude.{◌≡◌, ◌*◌, ◌≤◌, ◌==◌, ℕ, Bool, true, List, [], ◌∷◌, Some, None, length, option_map, slice_set, if◌then◌else◌, IsCharBoundary}
use Rattle.fancy_regex_meaning.specs.Groups.{Pattern}
use Rattle.fancy_regex_meaning.specs.Searches.{first_match}
use Rattle.fancy_regex_class.specs.RunInputs.{setting_for, search_for, match_slots}
use Rattle.fancy_regex_class.specs.declared.input.RunInput.{RunInput}
use Rattle.fancy_regex_states.specs.Attempts.{View}
use Rattle.fancy_regex_parts.specs.Frames.{IsInReach}
use Rattle.fancy_regex_parts.specs.Ways.{Ways, Explains}
use Rattle.fancy_regex_linear.specs.Calls.{has_own_span}
use Rattle.fancy_regex_linear.specs.EasyPatterns.{span_of_match}
use Rattle.fancy_regex_regular.specs.Inputs.{MemoryServes}
use Rattle.fancy_regex_regular.specs.Regulars.{IsRegularOf, continue_place, ends_from, lowest_asked, rules_at}
use Rattle.fancy_regex_regular.specs.declared.memory.RegularMemory.{RegularMemory}
use Rattle.fancy_regex_regular.specs.declared.regular.Regular.{Regular}

-- Where a match is said to begin whose attempt starts at this place, where the walk along it left these slots: where `\K` stood last, which
-- wrote the first slot, and else at the start.
abbrev pub reset_start : ℕ → List ℕ → ℕ
reset_start start [] = start
reset_start start (told ∷ slots) = if told == 18446744073709551615 then start else told

-- the slots of the match, with its span for group 0 where that is not in the pattern
abbrev pub told_slots : Bool → ℕ → ℕ → List ℕ → List ℕ
told_slots has_span start end slots = if has_span then slice_set (slice_set slots 0 (reset_start start slots)) 1 end else slots

-- What the slots tell that a walk left: the groups of the match, where they are those of all groups, and where it begins, where there is one.
pub record IsToldBy (longest : Bool) (regular : Regular) (text : List ℕ) (input : RunInput) (start end count : ℕ) (slots : List ℕ)
    (pattern : Pattern) : Type 0 where
  pub count_is : length slots ≡ count
  pub groups : count ≡ 2 * length pattern.groups
      → option_map (match_slots pattern) (first_match (setting_for regular.unicode text input) pattern (search_for longest input))
      ≡ Some (told_slots (has_own_span pattern) start end slots)
  pub span : has_own_span pattern ≡ true → 1 ≤ count
      → option_map span_of_match (first_match (setting_for regular.unicode text input) pattern (search_for longest input))
      ≡ Some (reset_start start slots, end)
  pub boundary : has_own_span pattern ≡ true → 1 ≤ count → IsCharBoundary text (reset_start start slots)

-- the same of each pattern that it is of, for so many slots
abbrev pub IsWalkOf : Bool → Regular → List ℕ → RunInput → ℕ → ℕ → ℕ → List ℕ → Type 0
IsWalkOf longest regular text input start end count slots = (pattern : Pattern) → IsRegularOf regular pattern
    → IsToldBy longest regular text input start end count slots pattern

-- the states have a way from this start in a search with this input
abbrev pub HasWayFrom : Regular → List ℕ → RunInput → ℕ → Type 0
HasWayFrom regular text input start = (view : View) (ways : Ways)
    → Explains regular.matchers.items (rules_at regular.unicode input (continue_place regular input)) (ends_from 0 input.range.end) regular.table.states.items text view ways
    → ways.end regular.entry start ≡ None → ⊥

-- a walk may begin at this start in a search with this input: the memory serves that, and may be asked there, and there is a way
pub record CanWalk (regular : Regular) (text : List ℕ) (input : RunInput) (memory : RegularMemory) (start : ℕ) : Type 0 where
  pub serves : MemoryServes memory.kept input (continue_place regular input) (lowest_asked regular input)
  pub place : IsInReach regular.table text memory.parts.recall.base regular.entry start
  pub way : HasWayFrom regular text input start
