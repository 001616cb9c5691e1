-- Which errors an iteration may return.
use Rattle.std.specs.Prelude.{◌≡◌, ℕ, ◌≤◌, Bool, false, List, ◌++◌, None, max}
use Rattle.fancy_regex_meaning.specs.Searches.{Match}
use Rattle.fancy_regex_input.specs.SearchInputs.{whole}
use Rattle.fancy_regex_input.specs.declared.config.SearchConfig.{SearchConfig}
use Rattle.fancy_regex_meta.specs.SearchLimits.{IsMetaSearchError}
use Rattle.fancy_regex_meta.specs.declared.error.Error.{Error}
use Rattle.fancy_regex_meta.specs.declared.meta_regex.MetaRegex.{MetaRegex}
use Rattle.fancy_regex_search.specs.IterationLimits.{SkipsStayUntil, StaysAfterUntil, StaysFor}
use Rattle.fancy_regex_search.specs.IterationSearches.{SkipsToFrom, MakesSearchFrom, ComesTo}
use Rattle.fancy_regex_search.specs.RemainingMatches.{all_matches}
use Rattle.fancy_regex_search.specs.declared.match_iter.IterState.{IterState}

-- The error is one of a search that a call of `next` in this state makes for its own answer: the next search, or one after
-- an empty match that is skipped since it ends where the previous match ended. It is no error of a later search, and each search
-- that the call makes before stays within the limits.
abbrev pub IsItemError : MetaRegex → List ℕ → SearchConfig → IterState → Error → Type 0
IsItemError s text config state e =
    (q : ℕ) × (o : Bool) × SkipsToFrom s text config state q o × (max q config.range_start ≤ config.range_end)
    × IsMetaSearchError s text (record config { start = q }) o e × SkipsStayUntil s text config state q

-- The error is one of some search that the whole iteration from this configuration makes; the flag says whether `\G` is disabled in its
-- first search.
abbrev pub IsIterationError : MetaRegex → List ℕ → SearchConfig → Bool → Error → Type 0
IsIterationError s text config continue_disabled e =
    (q : ℕ) × (o : Bool) × MakesSearchFrom s text config continue_disabled q o × IsMetaSearchError s text (record config { start = q }) o e

-- The error is one of a search that an iteration from this configuration makes right after these items: the next one, or one
-- after matches that are skipped. Each search before it stays within the limits.
abbrev pub IsErrorAfter : MetaRegex → List ℕ → SearchConfig → List Match → Error → Type 0
IsErrorAfter s text config items e =
    (q : ℕ) × (o : Bool) × ComesTo s text config items None config.start false q o × (max q config.range_start ≤ config.range_end)
    × IsMetaSearchError s text (record config { start = q }) o e × StaysFor s text config items × StaysAfterUntil s text config items q

-- The error is one of a search that the iteration over a whole text makes right after some of its matches; each search before it stays
-- within the limits.
abbrev pub IsErrorOfIteration : MetaRegex → List ℕ → Error → Type 0
IsErrorOfIteration s text e =
    (done : List Match) × (rest : List Match) × (all_matches s text (whole text) ≡ done ++ rest) × IsErrorAfter s text (whole text) done e
