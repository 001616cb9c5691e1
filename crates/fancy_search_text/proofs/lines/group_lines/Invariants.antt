use Rattle.std.proofs.Common.{◌≡◌, ◌++◌}
use Rattle.std.specs.Prelude.{false, string_bytes}
use Rattle.fancy_regex.specs.SearchInputs.{whole}
use Rattle.fancy_regex.specs.WayLaws.{Each}
use Rattle.fancy_regex.specs.RemainingMatches.{remaining_matches, all_matches}
use Rattle.fancy_regex.specs.IterationSearches.{KeepsSearches}
use Rattle.fancy_regex.proofs.IterationProgress.{Iterated}
use Rattle.fancy_search_text.proofs.SpanLemmas.{HasSpans}
use Rattle.fancy_search_text.specs.Lines.{group_lines}
use Rattle.fancy_search_text.proofs.lines.group_lines.Given as goal

-- what is out, and the lines of the matches that are left, are the lines of all matches; and the groups of those cut the text
abbrev pub invariant-loop-found : goal.invariant-loop-found
invariant-loop-found l =
    let match_iter = l.matches.match_iter in
    let left = remaining_matches match_iter.regex.now.meta match_iter.input.haystack.now match_iter.input.config match_iter.state in
    record {
      lines : string_bytes l.lines ++ group_lines left ≡ group_lines (all_matches l.fn.regex.meta l.fn.text (whole l.fn.text));
      cut : Each (HasSpans match_iter.input.haystack.now) left;
      text : match_iter.input.haystack.now ≡ l.fn.text;
      config : match_iter.input.config ≡ record (whole l.fn.text) { start = match_iter.input.config.start };
      regex : match_iter.regex.now ≡ l.fn.regex;
      passes : KeepsSearches l.fn.regex.meta l.fn.text (whole l.fn.text) false match_iter.input.config match_iter.state.continue_disabled;
      going : match_iter.state.is_done ≡ false;
      progress : Iterated l.fn.regex.meta l.fn.text match_iter.input.config match_iter.state (remaining_matches l.fn.regex.meta l.fn.text match_iter.input.config match_iter.state);
    }
