-- The matches that an iteration has still to return.
use Rattle.std.specs.Prelude.{◌≡◌, ℕ, ◌+◌, ◌-◌, List, [], ◌∷◌, length, Option, MatchOption, MatchResult, nat_lt, if◌then◌else◌}
use Rattle.std.specs.declared.result.Result.{Result}
use Rattle.fancy_regex_meaning.specs.Positions.{position_after}
use Rattle.fancy_regex_meaning.specs.Searches.{Match, items, all_items}
use Rattle.fancy_regex_input.specs.declared.config.SearchConfig.{SearchConfig}
use Rattle.fancy_regex_input.specs.SearchInputs.{input_of}
use Rattle.fancy_regex_meta.specs.Patterns.{options_in, setting_in}
use Rattle.fancy_regex_meta.specs.MetaMatches.{meta_match_from, meta_pattern}
use Rattle.fancy_regex_meta.specs.declared.meta_regex.MetaRegex.{MetaRegex}
use Rattle.fancy_regex_search.specs.declared.match_iter.IterState.{IterState}

-- the matches that an iteration in this state has still to return
abbrev pub remaining_matches : MetaRegex → List ℕ → SearchConfig → IterState → List Match
remaining_matches s text config state =
    if state.is_done then [] else
    items text (meta_match_from s text config) config.range_start config.range_end (length text + 2) config.start state.last state.continue_disabled

-- all matches of an iteration
abbrev pub all_matches : MetaRegex → List ℕ → SearchConfig → List Match
all_matches s text config = all_items (setting_in s.options text config) (meta_pattern s) (options_in s.options) (input_of config)

-- the start of the search after this match
abbrev pub next_start : List ℕ → ℕ → ℕ → ℕ
next_start text start end = if nat_lt start end then end else position_after text end

-- an upper bound of the searches that the iteration has still to make
abbrev pub remaining_searches : List ℕ → SearchConfig → IterState → ℕ
remaining_searches text config state = if state.is_done then 0 else length text + 2 - config.start

-- The call returned the first of the remaining matches; or `None`, and there was none; or an error, and none remains.
abbrev pub Yields : {A E : Type 0} → (A → Match → Type 0) → List Match → Option (Result A E) → List Match → Type 0
Yields Shows before result after =
    MatchOption result ((before ≡ []) × (after ≡ []))
    (λ item. MatchResult item (λ x. (m : Match) × (before ≡ m ∷ after) × Shows x m) (λ _. after ≡ []))
