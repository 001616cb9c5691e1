-- Which pattern a regular one is of, and what its searches answer.
use Rattle.std.specs.Prelude.{◌≡◌, ◌+◌, ◌-◌, ◌*◌, ◌≤◌, ℕ, Bool, false, not, List, Option, None, length, option_map, if◌then◌else◌, ◌==◌}
use Rattle.fancy_regex_meaning.specs.Groups.{Pattern}
use Rattle.fancy_regex_meaning.specs.Searches.{first_match}
use Rattle.fancy_regex_class.specs.RunInputs.{setting_for, search_for, match_slots}
use Rattle.fancy_regex_class.specs.declared.input.RunInput.{RunInput}
use Rattle.fancy_regex_states.specs.declared.rules.Rules.{Rules}
use Rattle.fancy_regex_parts.specs.Find.{failed_starts}
use Rattle.fancy_regex_parts.specs.Tables.{lowest_of}
use Rattle.fancy_regex_parts.specs.declared.step.EndRange.{EndRange}
use Rattle.fancy_regex_parts.specs.declared.step.PartContext.{PartContext}
use Rattle.fancy_regex_linear.specs.Easy.{rules_for}
use Rattle.fancy_regex_linear.specs.EasyPatterns.{span_of_match}
use Rattle.fancy_regex_linear.specs.RegularStates.{AreRegularStates}
use Rattle.fancy_regex_regular.specs.Starts.{last_start}
use Rattle.fancy_regex_regular.specs.Weights.{written_steps, tree_state_weight}
use Rattle.fancy_regex_regular.specs.declared.regular.Regular.{Regular}

-- it has the states and matchers of the pattern, and slots for its groups
pub record IsRegularOf (regular : Regular) (pattern : Pattern) : Type 0 where
  pub states : AreRegularStates regular.unicode regular.resets_start regular.table.states.items regular.entry regular.matchers.items pattern
  pub groups : regular.groups ≡ length pattern.groups
  pub whole : regular.whole ≡ not (pattern.first_group == 0)

-- where `\G` holds in a search with this input, for a pattern that asks for it
abbrev pub continue_place : Regular → RunInput → Option ℕ
continue_place regular input = if regular.continues then input.continue_at else None

-- the flags of a search; a pattern that does not ask for `\G` has no place of it
abbrev pub rules_at : Bool → RunInput → Option ℕ → Rules
rules_at unicode input place = record (rules_for unicode false input) { continue_at = place }

-- the places where a match of a search may end, from this one on
abbrev pub ends_from : ℕ → ℕ → EndRange
ends_from least stop = record { least = least; most = stop }

-- what a search of this pattern reads and does not change, where a match has to end at this place or later
pub record IsContextOf (regular : Regular) (input : RunInput) (least : ℕ) (context : PartContext) : Type 0 where
  pub table_is : context.table.now ≡ regular.table
  pub matchers_are : context.matchers.now ≡ regular.matchers.items
  pub rules_are : context.rules ≡ rules_at regular.unicode input (continue_place regular input)
  pub entry_is : context.entry ≡ regular.entry
  pub range_is : context.range ≡ ends_from least input.range.end

-- the span that was found is that of the match of the definitions, of this text and input: of the first, or the longest
abbrev pub IsSpanOf : Bool → Regular → List ℕ → RunInput → Option (ℕ × ℕ) → Type 0
IsSpanOf longest regular text input found = (pattern : Pattern) → IsRegularOf regular pattern
    → found ≡ option_map span_of_match (first_match (setting_for regular.unicode text input) pattern (search_for longest input))

-- the slots that were found are those of that match
abbrev pub IsSlotsOf : Bool → Regular → List ℕ → RunInput → Option (List ℕ) → Type 0
IsSlotsOf longest regular text input found = (pattern : Pattern) → IsRegularOf regular pattern
    → found ≡ option_map (match_slots pattern) (first_match (setting_for regular.unicode text input) pattern (search_for longest input))

-- the same of the match that is wanted
abbrev pub IsSpan : Regular → List ℕ → RunInput → Option (ℕ × ℕ) → Type 0
IsSpan regular text input found = IsSpanOf regular.longest regular text input found

abbrev pub IsSlots : Regular → List ℕ → RunInput → Option (List ℕ) → Type 0
IsSlots regular text input found = IsSlotsOf regular.longest regular text input found

-- A search looks at the text at most four times as often as the pattern weighs at each place from this one to the end of the text, since
-- look-aheads see past the range. `\R` weighs 16 here, `\Z` 7, and a conditional one more than elsewhere.
abbrev pub LooksFrom : Regular → List ℕ → ℕ → ℕ → ℕ → Type 0
LooksFrom regular text first old new = (pattern : Pattern) → IsRegularOf regular pattern
    → new ≤ old + 4 * tree_state_weight pattern.groups pattern.tree * (length text - first + 1)

-- A search for groups looks at the text at most twelve times as often as the square of the weight at each such place: the walk along the
-- match asks at each branch again which one it takes.
abbrev pub LooksForGroupsFrom : Regular → List ℕ → ℕ → ℕ → ℕ → Type 0
LooksForGroupsFrom regular text first old new = (pattern : Pattern) → IsRegularOf regular pattern
    → new ≤ old + 12 * (tree_state_weight pattern.groups pattern.tree * tree_state_weight pattern.groups pattern.tree)
    * (length text - first + 1)

-- the least byte offset that a search asks about: the first start, less four bytes for each character that look-behinds step back over
abbrev pub lowest_asked : Regular → RunInput → ℕ
lowest_asked regular input = lowest_of regular.table regular.entry input.first

-- the same of a pattern: where no look-behind in it steps back over characters, but for tests of one character, it is the first start
abbrev pub lowest_seen : Regular → RunInput → Pattern → ℕ
lowest_seen regular input pattern = if written_steps pattern.groups pattern.tree == 0 then input.first else lowest_asked regular input

-- the looks of a search for a span, from that byte offset on
abbrev pub LooksAtMost : Regular → List ℕ → RunInput → ℕ → ℕ → Type 0
LooksAtMost regular text input old new = (pattern : Pattern) → IsRegularOf regular pattern
    → new ≤ old + 4 * tree_state_weight pattern.groups pattern.tree * (length text - lowest_seen regular input pattern + 1)

-- the same of a search for groups
abbrev pub LooksForGroupsAtMost : Regular → List ℕ → RunInput → ℕ → ℕ → Type 0
LooksForGroupsAtMost regular text input old new = (pattern : Pattern) → IsRegularOf regular pattern
    → new ≤ old + 12 * (tree_state_weight pattern.groups pattern.tree * tree_state_weight pattern.groups pattern.tree)
    * (length text - lowest_seen regular input pattern + 1)

-- the starts of a search that have no way, where this was found
abbrev pub starts_without : List ℕ → RunInput → Option (ℕ × ℕ) → ℕ
starts_without text input found = failed_starts text input.first (last_start input) found
