use Rattle.std.proofs.Common.{◌≡◌, ◌++◌}
use Rattle.std.specs.Prelude.{false}
use Rattle.fancy_regex.specs.SearchInputs.{whole}
use Rattle.fancy_regex.specs.RemainingMatches.{remaining_matches, all_matches}
use Rattle.fancy_regex.specs.IterationSearches.{KeepsSearches}
use Rattle.fancy_regex.proofs.IterationProgress.{Iterated}
use Rattle.fancy_regex_ffi_lists.specs.Lists.{match_spans}
use Rattle.fancy_regex_ffi_lists.proofs.matches.match_spans.Given as goal

-- the spans so far, and those of the matches that are left, are those of all matches
abbrev pub invariant-loop-found : goal.invariant-loop-found
invariant-loop-found l =
    let match_iter = l.matches.match_iter in
    record {
      spans : l.spans.items ++ match_spans (remaining_matches match_iter.regex.now.meta match_iter.input.haystack.now match_iter.input.config match_iter.state)
          ≡ match_spans (all_matches l.fn.regex.meta l.fn.text (whole l.fn.text));
      text : match_iter.input.haystack.now ≡ l.fn.text;
      config : match_iter.input.config ≡ record (whole l.fn.text) { start = match_iter.input.config.start };
      regex : match_iter.regex.now ≡ l.fn.regex;
      passes : KeepsSearches l.fn.regex.meta l.fn.text (whole l.fn.text) false match_iter.input.config match_iter.state.continue_disabled;
      going : match_iter.state.is_done ≡ false;
      progress : Iterated l.fn.regex.meta l.fn.text match_iter.input.config match_iter.state (remaining_matches l.fn.regex.meta l.fn.text match_iter.input.config match_iter.state);
    }
