use Rattle.std.proofs.Common.{rules, ◌≡◌, ◌∙◌, ◌∷◌, ◌++◌, Some, ap, sym}
use Rattle.std.specs.Prelude.{string_bytes}
use Rattle.std.proofs.lemmas.Result.{err_from_is_err_and}
use Rattle.fancy_regex.specs.SearchConfig.{SearchConfig}
use Rattle.fancy_regex.specs.Searches.{Match}
use Rattle.fancy_regex.specs.SearchInputs.{whole}
use Rattle.fancy_regex.specs.RemainingMatches.{remaining_matches, all_matches}
use Rattle.fancy_regex.proofs.IterationProgress.{iterated_first, iterated_next, iterated_stays, iterated_fails}
use Rattle.fancy_regex.proofs.SearchErrorLemmas.{item_error_is, memory_is_error}
use Rattle.fancy_regex.proofs.TextMatchLemmas.{all_are}
use Rattle.fancy_regex_ffi_lists.specs.Spans.{span_of}
use Rattle.fancy_regex_ffi_lists.specs.Lists.{match_spans}
use Rattle.fancy_regex_ffi_lists.proofs.ListLemmas.{spans_more, spans_all}
use Rattle.fancy_regex_ffi_lists.proofs.matches.match_spans.Goals as goal

pub loop-found-init : goal.loop-found-init
loop-found-init c =
    let made = c.find_iter-matches.ensures in
    let match_iter = c.find_iter-matches.result.match_iter in
    let s = c.args.regex.now.meta in
    let text = c.args.text.now in
    let left : remaining_matches s text match_iter.input.config match_iter.state ≡ all_matches s text (whole text) =
    (λ i. remaining_matches (sym (ap (λ r. r.meta) made.regex) i) (sym (ap (λ t. t.now) made.input.0) i) match_iter.input.config match_iter.state) ∙ made.left in
    record {
      spans = search rules;
      text = search rules;
      config = search rules;
      regex = search rules;
      passes = search rules;
      going = made.going;
      progress = iterated_first s text match_iter.input.config match_iter.state _ made.input.1 made.first made.begins left;
    }

pub loop-found-preserved : goal.loop-found-preserved
loop-found-preserved c =
    let steps = c.in-Some.ensures.steps in
    let old = c.loop-found.matches.match_iter in
    let new = c.next.new.self.match_iter in
    let text = old.input.haystack.now in
    let found = c.in_ok-found.field-0 in
    let seen : new.input.haystack.now ≡ text = λ i. (steps.3 i).now in
    let searches : new.regex.now ≡ old.regex.now = λ i. (steps.4 i).now in
    let before = remaining_matches old.regex.now.meta text old.input.config old.state in
    let after = remaining_matches new.regex.now.meta new.input.haystack.now new.input.config new.state in
    let gave : (m : Match) × (before ≡ m ∷ after) × ((found.start, found.end) ≡ (m.start, m.end)) = rw c.in_ok-found.was at steps.0 in
    let passes = rw (c.in_ok-found.was, c.loop-found.invariant.regex, c.loop-found.invariant.text) at steps.7 in
    let stays = rw (c.in_ok-found.was, c.loop-found.invariant.regex, c.loop-found.invariant.text) at steps.12 in
    let returns = rw (c.in_ok-found.was, c.loop-found.invariant.regex, c.loop-found.invariant.text) at steps.13 in
    let again : SearchConfig → SearchConfig = λ a. record a { start = new.input.config.start } in
    record {
      spans =
          ap (λ xs. xs ++ match_spans after) c.in_ok-push.ensures.items
          ∙ spans_more c.loop-found.spans.items c.span_at.result gave.0 before after _ gave.1 (c.span_at.ensures ∙ ap (λ s. span_of (Some s)) gave.2) c.loop-found.invariant.spans;
      text = seen ∙ c.loop-found.invariant.text;
      config = steps.5 ∙ ap again c.loop-found.invariant.config;
      regex = searches ∙ c.loop-found.invariant.regex;
      passes = λ q o made. c.loop-found.invariant.passes q o (passes q o made);
      going = rw c.in_ok-found.was at steps.8;
      progress = iterated_next c.args.regex.now.meta c.args.text.now old.input.config old.state (remaining_matches c.args.regex.now.meta c.args.text.now old.input.config old.state)
          c.loop-found.invariant.config c.loop-found.invariant.progress new.input.config new.state
          (remaining_matches c.args.regex.now.meta c.args.text.now new.input.config new.state) returns.0 returns.1 returns stays;
    }

pub returns-in_err-found-clause-passes : goal.returns-in_err-found-clause-passes
returns-in_err-found-clause-passes c =
    let p = err_from_is_err_and c.from_residual.result c.from_residual.ensures.1 in
    let s = c.args.regex.now.meta in
    let text = c.args.text.now in
    let match_iter = c.loop-found.matches.match_iter in
    let told = rw (c.in_err-found.was, c.loop-found.invariant.regex, c.loop-found.invariant.text) at c.in-Some.ensures.steps.6 in
    rw (p.1, p.2) (λ other. iterated_fails s text match_iter.input.config match_iter.state (remaining_matches s text match_iter.input.config match_iter.state) c.loop-found.invariant.config
    c.loop-found.invariant.progress _ told)

pub returns-in_err-found-clause-fails : goal.returns-in_err-found-clause-fails
returns-in_err-found-clause-fails c =
    let p = err_from_is_err_and c.from_residual.result c.from_residual.ensures.1 in
    let s = c.args.regex.now.meta in
    let text = c.args.text.now in
    let match_iter = c.loop-found.matches.match_iter in
    let told = rw (c.in_err-found.was, c.loop-found.invariant.regex, c.loop-found.invariant.text) at c.in-Some.ensures.steps.6 in
    rw (p.1, p.2) (item_error_is s text match_iter.input.config match_iter.input.config.start match_iter.state c.loop-found.invariant.config c.loop-found.invariant.passes _ told)

pub returns-in_err-push-clause-fails : goal.returns-in_err-push-clause-fails
returns-in_err-push-clause-fails c =
    let p = err_from_is_err_and c.from_residual-in_err-push.result c.from_residual-in_err-push.ensures.1 in
    rw (p.1, p.2) (memory_is_error c.args.regex.now.meta.options (string_bytes c.args.regex.now.meta.pattern) c.args.text.now)

pub returns-clause-spans : goal.returns-clause-spans
returns-clause-spans c =
    let s = c.args.regex.now.meta in
    let text = c.args.text.now in
    let done = spans_all c.loop-found.spans.items _ _ c.in_default.ensures.steps.0.0 c.loop-found.invariant.spans in
    done ∙ ap (λ ms. match_spans ms) (all_are s text)

pub returns-clause-stays : goal.returns-clause-stays
returns-clause-stays c =
    let s = c.args.regex.now.meta in
    let text = c.args.text.now in
    let match_iter = c.loop-found.matches.match_iter in
    let none = rw (c.loop-found.invariant.regex, c.loop-found.invariant.text) at c.in_default.ensures.steps.0 in
    let stays = rw (c.loop-found.invariant.regex, c.loop-found.invariant.text) at c.in_default.ensures.steps.12 in
    iterated_stays s text match_iter.input.config match_iter.state (remaining_matches s text match_iter.input.config match_iter.state) c.loop-found.invariant.config c.loop-found.invariant.progress
    none.0 (stays c.loop-found.invariant.going)
