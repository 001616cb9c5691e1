-- Which easy pattern a compiled one is of, and what its searches answer.
use Rattle.std.specs.Prelude.{◌≡◌, ◌+◌, ◌-◌, ◌*◌, ◌^◌, ◌≤◌, ℕ, List, Option, not, length, min, option_map, ◌==◌}
use Rattle.fancy_regex_meaning.specs.Groups.{Pattern}
use Rattle.fancy_regex_meaning.specs.Sizes.{tree_weight}
use Rattle.fancy_regex_meaning.specs.Searches.{Match, first_match, match_at, starts}
use Rattle.fancy_regex_class.specs.RunInputs.{setting_for, search_for, match_slots}
use Rattle.fancy_regex_class.specs.declared.input.RunInput.{RunInput}
use Rattle.fancy_regex_linear.specs.Easy.{IsCompiledPattern}
use Rattle.fancy_regex_linear.specs.Find.{attempted}
use Rattle.fancy_regex_linear.specs.declared.easy.Easy.{Easy}

-- It has the states and matchers of the pattern, and slots for its groups.
pub record IsEasyOf (easy : Easy) (pattern : Pattern) : Type 0 where
  pub serves : IsCompiledPattern easy.unicode easy.states.items easy.entry easy.matchers.items pattern
  pub groups : easy.groups ≡ length pattern.groups
  pub whole : easy.whole ≡ not (pattern.first_group == 0)

-- the match of the definitions, of this text and input
abbrev pub match_for : Easy → List ℕ → RunInput → Pattern → Option Match
match_for easy text input pattern = first_match (setting_for easy.unicode text input) pattern (search_for easy.longest input)

-- where a match starts and ends
abbrev pub span_of_match : Match → ℕ × ℕ
span_of_match m = (m.start, m.end)

-- the slots that were found are those of the match
abbrev pub IsMatchSlots : Easy → List ℕ → RunInput → Option (List ℕ) → Type 0
IsMatchSlots easy text input found = (pattern : Pattern) → IsEasyOf easy pattern
    → found ≡ option_map (match_slots pattern) (match_for easy text input pattern)

-- the span that was found is that of the match: its start and its end
abbrev pub IsMatchSpan : Easy → List ℕ → RunInput → Option (ℕ × ℕ) → Type 0
IsMatchSpan easy text input found = (pattern : Pattern) → IsEasyOf easy pattern
    → found ≡ option_map span_of_match (match_for easy text input pattern)

-- A search looks at the text no more often than the pattern weighs at each place of the range.
abbrev pub LooksAtMost : Easy → RunInput → ℕ → ℕ → Type 0
LooksAtMost easy input old new = (pattern : Pattern) → IsEasyOf easy pattern
    → new ≤ old + tree_weight pattern.groups pattern.tree * (input.range.end - input.first + 1)

-- It looks at least once for each start that it tries.
abbrev pub LooksAtLeast : Easy → List ℕ → RunInput → ℕ → ℕ → Type 0
LooksAtLeast easy text input old new = (pattern : Pattern) → IsEasyOf easy pattern
    → min (old + attempted (match_at (setting_for easy.unicode text input) pattern (search_for easy.longest input))
    (starts (setting_for easy.unicode text input) pattern (search_for easy.longest input))) (2 ^ 64 - 1) ≤ new
