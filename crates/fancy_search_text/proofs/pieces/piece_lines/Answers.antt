use Rattle.std.proofs.Common.{◌≡◌, ◌++◌, ◌∷◌, ℕ, Bool, false, ap, sym, subst, rules, arith, ◌∙◌}
use Rattle.std.specs.Prelude.{string_bytes}
use Rattle.std.proofs.lemmas.Result.{err_from_is_err_and}
use Rattle.fancy_regex.specs.SearchConfig.{SearchConfig}
use Rattle.fancy_regex.specs.SearchInputs.{whole}
use Rattle.fancy_regex.specs.Searches.{pieces}
use Rattle.fancy_regex.specs.Pieces.{pieces_left}
use Rattle.fancy_regex.specs.RemainingMatches.{remaining_matches, all_matches}
use Rattle.fancy_regex.specs.IterationSearches.{MakesSearchFrom}
use Rattle.std.proofs.lemmas.Bool.{false≢true}
use Rattle.std.proofs.lemmas.Grind.{common_steps}
use Rattle.fancy_search_text.specs.Lines.{piece_lines}
use Rattle.fancy_regex.proofs.IterationProgress.{iterated_first, iterated_next, iterated_stays, iterated_fails}
use Rattle.fancy_regex.proofs.SearchErrorLemmas.{item_error_is, memory_is_error}
use Rattle.fancy_regex.proofs.TextMatchLemmas.{all_are}
use Rattle.fancy_search_text.proofs.PieceLemmas.{done_at_end, line_more, none_left, not_done, not_done_before}
use Rattle.fancy_search_text.proofs.pieces.piece_lines.Goals as goal

pub loop-piece-init : goal.loop-piece-init
loop-piece-init c =
    let text = c.args.text.now in
    let made = c.split-pieces.ensures in
    let match_iter = c.split-pieces.result.gaps.match_iter in
    let same : match_iter.input.haystack.now ≡ text = λ i. (made.input.0 i).now in
    let config : match_iter.input.config ≡ whole text = made.input.1 in
    let from : ℕ → SearchConfig = λ k. record (whole text) { start = k } in
    let s = c.args.regex.now.meta in
    let remain : remaining_matches s text match_iter.input.config match_iter.state ≡ all_matches s text (whole text) =
    (λ i. remaining_matches (sym (ap (λ r. r.now.meta) made.regex) i) (sym same i) match_iter.input.config match_iter.state) ∙ made.matches in
    record {
      lines = rw c.new-lines.ensures.bytes (ap (λ ps. piece_lines ps) made.left);
      text = same;
      config = config ∙ ap from (sym (ap (λ (a : SearchConfig). a.start) config));
      regex = λ i. (made.regex i).now;
      passes = λ live q o h. subst (λ (b : Bool). MakesSearchFrom c.args.regex.now.meta text (whole text) b q o) made.begins.0
          (subst (λ (a : SearchConfig). MakesSearchFrom c.args.regex.now.meta text a match_iter.state.continue_disabled q o) config h);
      going = λ live. made.going;
      progress = λ live. iterated_first s text match_iter.input.config match_iter.state _ config made.first made.begins.0 remain;
      stays = λ done. absurd (false≢true (sym made.begins.1 ∙ done));
    }

pub loop-piece-preserved : goal.loop-piece-preserved
loop-piece-preserved c =
    let steps = c.in-Some.ensures.steps in
    let old = c.loop-piece.pieces in
    let new = c.next.new.self in
    let at = old.gaps.match_iter in
    let then = new.gaps.match_iter in
    let text = at.input.haystack.now in
    let seen : then.input.haystack.now ≡ text = λ i. (steps.1 i).now in
    let searches : then.regex.now ≡ at.regex.now = λ i. (steps.2 i).now in
    let left = remaining_matches at.regex.now.meta text at.input.config at.state in
    let before = pieces_left old.is_done text old.gaps.last_end left in
    let after = pieces_left new.is_done then.input.haystack.now new.gaps.last_end (remaining_matches then.regex.now.meta then.input.haystack.now then.input.config then.state) in
    let piece = c.in_ok-piece.field-0.now in
    let gave : before ≡ piece ∷ after = rw c.in_ok-piece.was at steps.0 in
    let live : old.is_done ≡ false = not_done_before old.is_done text old.gaps.last_end left piece after gave in
    let passes = rw (c.in_ok-piece.was, c.loop-piece.invariant.regex, c.loop-piece.invariant.text) at steps.5 in
    let again : SearchConfig → SearchConfig = λ a. record a { start = then.input.config.start } in
    let s = c.args.regex.now.meta in
    let remain = remaining_matches s c.args.text.now at.input.config at.state in
    let ends = rw c.in_ok-piece.was at steps.6 in
    let told = rw (c.in_ok-piece.was, c.loop-piece.invariant.regex, c.loop-piece.invariant.text) at steps.7 in
    let stays = told (c.loop-piece.invariant.going live) in
    let returns = rw (c.in_ok-piece.was, c.loop-piece.invariant.regex, c.loop-piece.invariant.text) at steps.8 in
    let last = rw (c.loop-piece.invariant.regex, c.loop-piece.invariant.text) at gave in
    record {
      lines = ap (λ xs. xs ++ piece_lines after) c.in_ok-write_piece.ensures ∙ line_more (string_bytes c.loop-piece.lines) piece before after gave ∙ c.loop-piece.invariant.lines;
      text = seen ∙ c.loop-piece.invariant.text;
      config = steps.3 ∙ ap again c.loop-piece.invariant.config;
      regex = searches ∙ c.loop-piece.invariant.regex;
      passes = λ still q o made. c.loop-piece.invariant.passes live q o (passes still q o made);
      going = ends;
      progress = λ still.
          let given = returns still in
          iterated_next s c.args.text.now at.input.config at.state remain c.loop-piece.invariant.config (c.loop-piece.invariant.progress live) then.input.config then.state
          (remaining_matches s c.args.text.now then.input.config then.state) given.0 given.1 given stays;
      stays = λ done.
          iterated_stays s c.args.text.now at.input.config at.state remain c.loop-piece.invariant.config (c.loop-piece.invariant.progress live)
          (none_left old.is_done new.is_done c.args.text.now then.input.haystack.now old.gaps.last_end new.gaps.last_end remain _ piece last done) stays;
    }

pub returns-in_err-piece-clause-fails : goal.returns-in_err-piece-clause-fails
returns-in_err-piece-clause-fails c =
    let p = err_from_is_err_and c.from_residual.result c.from_residual.ensures.1 in
    let s = c.args.regex.now.meta in
    let text = c.args.text.now in
    let old = c.loop-piece.pieces in
    let at = old.gaps.match_iter in
    let steps = c.in-Some.ensures.steps in
    let ended = rw c.in_err-piece.was at steps.0 in
    let live : old.is_done ≡ false =
    not_done old.is_done at.input.haystack.now old.gaps.last_end (remaining_matches at.regex.now.meta at.input.haystack.now at.input.config at.state) ended.0 in
    let told = rw (c.in_err-piece.was, c.loop-piece.invariant.regex, c.loop-piece.invariant.text) at steps.4 in
    rw (p.1, p.2) (item_error_is s text at.input.config at.input.config.start at.state c.loop-piece.invariant.config (c.loop-piece.invariant.passes live) _ told)

pub returns-in_err-piece-clause-passes : goal.returns-in_err-piece-clause-passes
returns-in_err-piece-clause-passes c =
    let p = err_from_is_err_and c.from_residual.result c.from_residual.ensures.1 in
    let s = c.args.regex.now.meta in
    let text = c.args.text.now in
    let old = c.loop-piece.pieces in
    let at = old.gaps.match_iter in
    let steps = c.in-Some.ensures.steps in
    let ended = rw c.in_err-piece.was at steps.0 in
    let live : old.is_done ≡ false =
    not_done old.is_done at.input.haystack.now old.gaps.last_end (remaining_matches at.regex.now.meta at.input.haystack.now at.input.config at.state) ended.0 in
    let told = rw (c.in_err-piece.was, c.loop-piece.invariant.regex, c.loop-piece.invariant.text) at steps.4 in
    rw (p.1, p.2) (λ other. iterated_fails s text at.input.config at.state (remaining_matches s text at.input.config at.state) c.loop-piece.invariant.config (c.loop-piece.invariant.progress live) _ told)

pub returns-in_err-write_piece-clause-fails : goal.returns-in_err-write_piece-clause-fails
returns-in_err-write_piece-clause-fails c =
    let p = err_from_is_err_and c.from_residual-in_err-write_piece.result c.from_residual-in_err-write_piece.ensures.1 in
    rw (p.1, p.2) (memory_is_error c.args.regex.now.meta.options (string_bytes c.args.regex.now.meta.pattern) c.args.text.now)

pub returns-clause-lines : goal.returns-clause-lines
returns-clause-lines c =
    let s = c.args.regex.now.meta in
    let text = c.args.text.now in
    let done : string_bytes c.loop-piece.lines ≡ piece_lines (pieces text (all_matches s text (whole text))) = first_of (search rules, grind (arith, common_steps)) in
    done ∙ ap (λ ms. piece_lines (pieces text ms)) (all_are s text)

pub returns-clause-stays : goal.returns-clause-stays
returns-clause-stays c =
    let pieces = c.loop-piece.pieces in
    let at = pieces.gaps.match_iter in
    c.loop-piece.invariant.stays
    (done_at_end pieces.is_done at.input.haystack.now pieces.gaps.last_end (remaining_matches at.regex.now.meta at.input.haystack.now at.input.config at.state) c.in_default.ensures.steps.0.0)
