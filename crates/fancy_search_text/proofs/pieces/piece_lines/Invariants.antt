use Rattle.std.proofs.Common.{◌≡◌, ◌++◌}
use Rattle.std.specs.Prelude.{true, false, string_bytes}
use Rattle.fancy_regex.specs.Searches.{pieces}
use Rattle.fancy_regex.specs.SearchInputs.{whole}
use Rattle.fancy_regex.specs.Pieces.{pieces_left}
use Rattle.fancy_regex.specs.RemainingMatches.{remaining_matches, all_matches}
use Rattle.fancy_regex.specs.IterationSearches.{KeepsSearches}
use Rattle.fancy_regex.specs.IterationLimits.{IterationStays}
use Rattle.fancy_regex.proofs.IterationProgress.{Iterated}
use Rattle.fancy_search_text.specs.Lines.{piece_lines}
use Rattle.fancy_search_text.proofs.pieces.piece_lines.Given as goal

-- what is out, and the lines of the pieces that are left, are the lines of all pieces
abbrev pub invariant-loop-piece : goal.invariant-loop-piece
invariant-loop-piece l =
    let gaps = l.pieces.gaps in
    let match_iter = gaps.match_iter in
    record {
      lines : string_bytes l.lines ++ piece_lines (pieces_left l.pieces.is_done match_iter.input.haystack.now gaps.last_end
          (remaining_matches match_iter.regex.now.meta match_iter.input.haystack.now match_iter.input.config match_iter.state))
          ≡ piece_lines (pieces l.fn.text (all_matches l.fn.regex.meta l.fn.text (whole l.fn.text)));
      text : match_iter.input.haystack.now ≡ l.fn.text;
      config : match_iter.input.config ≡ record (whole l.fn.text) { start = match_iter.input.config.start };
      regex : match_iter.regex.now ≡ l.fn.regex;
      passes : l.pieces.is_done ≡ false → KeepsSearches l.fn.regex.meta l.fn.text (whole l.fn.text) false match_iter.input.config match_iter.state.continue_disabled;
      going : l.pieces.is_done ≡ false → match_iter.state.is_done ≡ false;
      progress : l.pieces.is_done ≡ false
          → Iterated l.fn.regex.meta l.fn.text match_iter.input.config match_iter.state (remaining_matches l.fn.regex.meta l.fn.text match_iter.input.config match_iter.state);
      stays : l.pieces.is_done ≡ true → IterationStays l.fn.regex.meta l.fn.text;
    }
