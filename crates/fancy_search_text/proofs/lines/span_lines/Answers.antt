use Rattle.std.proofs.Common.{◌≡◌, ◌∙◌, ◌∷◌, ◌++◌, ap, rules, arith, sym}
use Rattle.std.specs.Prelude.{string_bytes}
use Rattle.std.proofs.lemmas.Result.{err_from_is_err_and}
use Rattle.std.proofs.lemmas.Grind.{common_steps}
use Rattle.fancy_regex.specs.SearchConfig.{SearchConfig}
use Rattle.fancy_regex.specs.SearchInputs.{whole}
use Rattle.fancy_regex.specs.Searches.{Match}
use Rattle.fancy_regex.specs.RemainingMatches.{remaining_matches, all_matches}
use Rattle.fancy_search_text.specs.Lines.{span_lines, span_text}
use Rattle.fancy_search_text.proofs.LineLemmas.{line_more}
use Rattle.fancy_regex.proofs.IterationProgress.{iterated_first, iterated_next, iterated_stays, iterated_fails}
use Rattle.fancy_regex.proofs.SearchErrorLemmas.{item_error_is, memory_is_error}
use Rattle.fancy_regex.proofs.TextMatchLemmas.{all_are}
use Rattle.fancy_search_text.proofs.lines.span_lines.Goals as goal

pub loop-found-init : goal.loop-found-init
loop-found-init c =
    let made = c.find_iter-matches.ensures in
    let match_iter = c.find_iter-matches.result.match_iter in
    let s = c.args.regex.now.meta in
    let text = c.args.text.now in
    let left : remaining_matches s text match_iter.input.config match_iter.state ≡ all_matches s text (whole text) =
    (λ i. remaining_matches (sym (ap (λ r. r.meta) made.regex) i) (sym (ap (λ t. t.now) made.input.0) i) match_iter.input.config match_iter.state) ∙ made.left in
    record {
      lines = rw c.new-lines.ensures.bytes (ap (λ ms. span_lines ms) made.left);
      text = search rules;
      config = search rules;
      regex = search rules;
      passes = search rules;
      going = made.going;
      progress = iterated_first s text match_iter.input.config match_iter.state _ made.input.1 made.first made.begins left;
    }

pub loop-found-preserved : goal.loop-found-preserved
loop-found-preserved c =
    let steps = c.in-Some.ensures.steps in
    let old = c.loop-found.matches.match_iter in
    let new = c.next.new.self.match_iter in
    let text = old.input.haystack.now in
    let found = c.in_ok-found.field-0 in
    let seen : new.input.haystack.now ≡ text = λ i. (steps.3 i).now in
    let searches : new.regex.now ≡ old.regex.now = λ i. (steps.4 i).now in
    let before = remaining_matches old.regex.now.meta text old.input.config old.state in
    let after = remaining_matches new.regex.now.meta new.input.haystack.now new.input.config new.state in
    let gave : (m : Match) × (before ≡ m ∷ after) × ((found.start, found.end) ≡ (m.start, m.end)) = rw c.in_ok-found.was at steps.0 in
    let passes = rw (c.in_ok-found.was, c.loop-found.invariant.regex, c.loop-found.invariant.text) at steps.7 in
    let stays = rw (c.in_ok-found.was, c.loop-found.invariant.regex, c.loop-found.invariant.text) at steps.12 in
    let returns = rw (c.in_ok-found.was, c.loop-found.invariant.regex, c.loop-found.invariant.text) at steps.13 in
    let again : SearchConfig → SearchConfig = λ a. record a { start = new.input.config.start } in
    record {
      lines =
          let out = string_bytes c.loop-found.lines in
          ap (λ xs. xs ++ span_lines after) c.in_ok-write_span_line.ensures
          ∙ line_more (λ m. span_text (m.start, m.end)) out (span_text (found.start, found.end)) gave.0 before after gave.1 (ap span_text gave.2)
          ∙ c.loop-found.invariant.lines;
      text = seen ∙ c.loop-found.invariant.text;
      config = steps.5 ∙ ap again c.loop-found.invariant.config;
      regex = searches ∙ c.loop-found.invariant.regex;
      passes = λ q o made. c.loop-found.invariant.passes q o (passes q o made);
      going = rw c.in_ok-found.was at steps.8;
      progress = iterated_next c.args.regex.now.meta c.args.text.now old.input.config old.state (remaining_matches c.args.regex.now.meta c.args.text.now old.input.config old.state)
          c.loop-found.invariant.config c.loop-found.invariant.progress new.input.config new.state
          (remaining_matches c.args.regex.now.meta c.args.text.now new.input.config new.state) returns.0 returns.1 returns stays;
    }

pub returns-in_err-found-clause-fails : goal.returns-in_err-found-clause-fails
returns-in_err-found-clause-fails c =
    let p = err_from_is_err_and c.from_residual.result c.from_residual.ensures.1 in
    let s = c.args.regex.now.meta in
    let text = c.args.text.now in
    let match_iter = c.loop-found.matches.match_iter in
    let told = rw (c.in_err-found.was, c.loop-found.invariant.regex, c.loop-found.invariant.text) at c.in-Some.ensures.steps.6 in
    rw (p.1, p.2) (item_error_is s text match_iter.input.config match_iter.input.config.start match_iter.state c.loop-found.invariant.config c.loop-found.invariant.passes _ told)

pub returns-in_err-found-clause-passes : goal.returns-in_err-found-clause-passes
returns-in_err-found-clause-passes c =
    let p = err_from_is_err_and c.from_residual.result c.from_residual.ensures.1 in
    let s = c.args.regex.now.meta in
    let text = c.args.text.now in
    let match_iter = c.loop-found.matches.match_iter in
    let told = rw (c.in_err-found.was, c.loop-found.invariant.regex, c.loop-found.invariant.text) at c.in-Some.ensures.steps.6 in
    rw (p.1, p.2) (λ other. iterated_fails s text match_iter.input.config match_iter.state (remaining_matches s text match_iter.input.config match_iter.state) c.loop-found.invariant.config
    c.loop-found.invariant.progress _ told)

pub returns-in_err-write_span_line-clause-fails : goal.returns-in_err-write_span_line-clause-fails
returns-in_err-write_span_line-clause-fails c =
    let p = err_from_is_err_and c.from_residual-in_err-write_span_line.result c.from_residual-in_err-write_span_line.ensures.1 in
    rw (p.1, p.2) (memory_is_error c.args.regex.now.meta.options (string_bytes c.args.regex.now.meta.pattern) c.args.text.now)

pub returns-clause-lines : goal.returns-clause-lines
returns-clause-lines c =
    let s = c.args.regex.now.meta in
    let text = c.args.text.now in
    let done : string_bytes c.loop-found.lines ≡ span_lines (all_matches s text (whole text)) = first_of (search rules, grind (arith, common_steps)) in
    done ∙ ap (λ ms. span_lines ms) (all_are s text)

pub returns-clause-stays : goal.returns-clause-stays
returns-clause-stays c =
    let s = c.args.regex.now.meta in
    let text = c.args.text.now in
    let match_iter = c.loop-found.matches.match_iter in
    let none = rw (c.loop-found.invariant.regex, c.loop-found.invariant.text) at c.in_default.ensures.steps.0 in
    let stays = rw (c.loop-found.invariant.regex, c.loop-found.invariant.text) at c.in_default.ensures.steps.12 in
    iterated_stays s text match_iter.input.config match_iter.state (remaining_matches s text match_iter.input.config match_iter.state) c.loop-found.invariant.config c.loop-found.invariant.progress
    none.0 (stays c.loop-found.invariant.going)
