-- The errors of searches over a whole text.
use Rattle.std.proofs.Common.{◌≡◌, ℕ, Bool, false, List, max, subst, arith}
use Rattle.std.specs.Prelude.{string_bytes}
use Rattle.fancy_regex_input.specs.SearchInputs.{whole}
use Rattle.fancy_regex_input.specs.declared.config.SearchConfig.{SearchConfig}
use Rattle.fancy_regex_search.specs.SearchLimits.{IsSearchError, IsMetaSearchError}
use Rattle.fancy_regex_search.specs.EasyPatterns.{pattern_uses_easy}
use Rattle.fancy_regex_search.specs.Error.{Error}
use Rattle.fancy_regex_search.specs.Error.TheVariants as errors
use Rattle.fancy_regex_search.specs.RegexOptions.{RegexOptions}
use Rattle.fancy_regex_search.specs.MetaRegex.{MetaRegex}
use Rattle.fancy_regex_search.specs.MetaMatches.{meta_match_from}
use Rattle.fancy_regex_search.specs.declared.match_iter.IterState.{IterState}
use Rattle.fancy_regex_search.specs.IterationErrors.{IsItemError, IsIterationError}
use Rattle.fancy_regex_search.specs.IterationSearches.{KeepsSearches, MakesSearchFrom, next}
use Rattle.fancy_regex_search.proofs.IterationLemmas.{skips_made}
use Rattle.fancy_regex.specs.TextMatches.{IsErrorOfSearch, choices_from}

-- a search is made at the start, so want of memory is always one of its errors
pub memory_is_error : (o : RegexOptions) (pattern text : List ℕ) → IsErrorOfSearch o pattern text errors.Memory
memory_is_error o pattern text = (0, false, next 0 false (omega arith), tt)

module _ (s : MetaRegex) (text : List ℕ) where
  -- the error of a search that the iteration makes
  error_of_search : (q : ℕ) (o : Bool) (e : Error) → MakesSearchFrom s text (whole text) false q o → IsMetaSearchError s text (record (whole text) { start = q }) o e
      → IsErrorOfSearch s.options (string_bytes s.pattern) text e
  error_of_search q o e made fails =
      let here : max q 0 ≡ q = omega arith in (
        q,
        o,
        made,
        subst (λ (p : ℕ). IsSearchError (pattern_uses_easy s.options (string_bytes s.pattern)) s.options.backtrack_limit (choices_from s.options (string_bytes s.pattern) text p o) e) here fails.0,
      )

  -- the error of the whole iteration
  pub iteration_error_is : (e : Error) → IsIterationError s text (whole text) false e → IsErrorOfSearch s.options (string_bytes s.pattern) text e
  iteration_error_is e h = error_of_search h.0 h.1 e h.2 h.3

  -- the error of a call in some state of it
  pub item_error_is : (config : SearchConfig) (k : ℕ) (state : IterState) → config ≡ record (whole text) { start = k } →
      KeepsSearches s text (whole text) false config state.continue_disabled →
      (e : Error) → IsItemError s text config state e → IsErrorOfSearch s.options (string_bytes s.pattern) text e
  item_error_is config k state is passes e h =
      let q = h.0 in
      let o = h.1 in
      let made = skips_made text (meta_match_from s text config) config.range_start config.range_end state.last config.start state.continue_disabled q o h.2 h.3 in
      let fails = subst (λ (a : SearchConfig). IsMetaSearchError s text (record a { start = q }) o e) is h.4 in
      error_of_search q o e (passes q o made) fails
