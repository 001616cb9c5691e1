use Rattle.std.proofs.Common.{◌≡◌, ◌++◌, ◌∷◌, ◌<◌, ◌≤◌, ℕ, Bool, length, arith, ap, sym, subst, refl, rules, ◌∙◌}
use Rattle.std.specs.Prelude.{codes, string_bytes, slice_set}
use Rattle.std.proofs.lemmas.Str.{IsCharBoundary-start}
use Rattle.fancy_regex.specs.SearchConfig.{SearchConfig}
use Rattle.fancy_regex.specs.SearchInputs.{whole, input_of}
use Rattle.fancy_regex.specs.WayLaws.{Each}
use Rattle.fancy_regex.specs.Searches.{Match}
use Rattle.fancy_regex.specs.RunInputs.{group_slots}
use Rattle.fancy_regex.specs.MetaMatches.{meta_pattern}
use Rattle.fancy_regex.specs.Patterns.{options_in, setting_in}
use Rattle.fancy_regex.specs.RemainingMatches.{remaining_matches, all_matches}
use Rattle.fancy_regex.specs.IterationSearches.{MakesSearchFrom}
use Rattle.std.proofs.lemmas.Result.{err_from_is_err_and}
use Rattle.fancy_regex.proofs.IterationProgress.{iterated_first, iterated_next, iterated_stays, iterated_fails}
use Rattle.fancy_regex.proofs.SearchErrorLemmas.{item_error_is, memory_is_error}
use Rattle.fancy_search_text.proofs.SpanLemmas.{HasSpans, all_have_spans, first_spans, each_later}
use Rattle.fancy_search_text.proofs.LineLemmas.{line_more}
use Rattle.std.proofs.lemmas.Grind.{common_steps}
use Rattle.fancy_regex.proofs.TextMatchLemmas.{all_are}
use Rattle.fancy_search_text.specs.Lines.{group_lines, groups_text, spans_of}
use Rattle.fancy_search_text.proofs.lines.group_lines.Goals as goal

pub loop-found-init : goal.loop-found-init
loop-found-init c =
    let text = c.args.text.now in
    let s = c.args.regex.now.meta in
    let left = c.captures_iter-matches.ensures.left in
    let same : c.captures_iter-matches.result.match_iter.input.haystack.now ≡ text = λ i. (c.captures_iter-matches.ensures.input.0 i).now in
    let fits : length text < 18446744073709551615 = omega arith in
    let end : length text ≤ length text = omega arith in
    let start = IsCharBoundary-start text c.utf8.text in
    let laws = c.laws_of_items.ensures in
    let setting = setting_in s.options text (whole text) in
    let all : Each (HasSpans text) (all_matches s text (whole text)) =
    all_have_spans text (length text) (all_matches s text (whole text)) fits (laws.ascend setting (meta_pattern s) (options_in s.options) (input_of (whole text)))
    (laws.cuts setting (meta_pattern s) (options_in s.options) (input_of (whole text)) c.utf8.text (start, start, end)) in
    let config : c.captures_iter-matches.result.match_iter.input.config ≡ whole text = c.captures_iter-matches.ensures.input.1 in
    let from : ℕ → SearchConfig = λ k. record (whole text) { start = k } in
    let made = c.captures_iter-matches.ensures in
    let match_iter = c.captures_iter-matches.result.match_iter in
    let remain : remaining_matches s text match_iter.input.config match_iter.state ≡ all_matches s text (whole text) =
    (λ i. remaining_matches (sym (ap (λ r. r.meta) made.regex) i) (sym same i) match_iter.input.config match_iter.state) ∙ left in
    record {
      lines = rw c.new-lines.ensures.bytes (ap (λ ms. group_lines ms) left);
      cut = rw (left, same) all;
      text = same;
      config = config ∙ ap from (sym (ap (λ (a : SearchConfig). a.start) config));
      regex = c.captures_iter-matches.ensures.regex;
      passes = λ q o makes. subst (λ (b : Bool). MakesSearchFrom s text (whole text) b q o) c.captures_iter-matches.ensures.begins
          (subst (λ (a : SearchConfig). MakesSearchFrom s text a c.captures_iter-matches.result.match_iter.state.continue_disabled q o) config makes);
      going = made.going;
      progress = iterated_first s text match_iter.input.config match_iter.state _ config made.first made.begins remain;
    }

pub loop-found-preserved : goal.loop-found-preserved
loop-found-preserved c =
    let steps = c.in-Some.ensures.steps in
    let old = c.loop-found.matches.match_iter in
    let new = c.next.new.self.match_iter in
    let text = old.input.haystack.now in
    let seen : new.input.haystack.now ≡ text = λ i. (steps.3 i).now in
    let searches : new.regex.now ≡ old.regex.now = λ i. (steps.4 i).now in
    let before = remaining_matches old.regex.now.meta text old.input.config old.state in
    let after = remaining_matches new.regex.now.meta new.input.haystack.now new.input.config new.state in
    let gave : (m : Match) × (before ≡ m ∷ after) × (c.in_ok-found.field-0.slots.items ≡ slice_set (slice_set (group_slots m.pairs) 0 m.start) 1 m.end) =
    rw c.in_ok-found.was at steps.0 in
    let of = rw c.in_ok-found.was at steps.1 in
    let shown : c.in_ok-found.field-0.haystack.now ≡ text = λ i. (of.0 i).now in
    let passes = rw (c.in_ok-found.was, c.loop-found.invariant.regex, c.loop-found.invariant.text) at steps.7 in
    let stays = rw (c.in_ok-found.was, c.loop-found.invariant.regex, c.loop-found.invariant.text) at steps.10 in
    let returns = rw (c.in_ok-found.was, c.loop-found.invariant.regex, c.loop-found.invariant.text) at steps.11 in
    let again : SearchConfig → SearchConfig = λ a. record a { start = new.input.config.start } in
    record {
      lines =
          let out = string_bytes c.loop-found.lines in
          let told = groups_text (spans_of gave.0) in
          let spans = first_spans text c.in_ok-found.field-0.haystack.now c.in_ok-found.field-0.slots.items gave.0 before after c.loop-found.invariant.cut gave.1 shown gave.2 in
          ap (λ xs. xs ++ group_lines after) (
          c.in_ok-push.ensures.bytes ∙ ap (λ xs. string_bytes c.write_groups.new.line ++ xs) (c.in_ok-push.ensures.ascii (omega arith))
          ∙ ap (λ xs. xs ++ codes "\n") (c.in_ok-write_groups.ensures (spans_of gave.0) spans)
          )
          ∙ line_more (λ m. groups_text (spans_of m)) out told gave.0 before after gave.1 refl
          ∙ c.loop-found.invariant.lines;
      cut = each_later text new.input.haystack.now gave.0 before after c.loop-found.invariant.cut gave.1 seen;
      text = seen ∙ c.loop-found.invariant.text;
      config = steps.5 ∙ ap again c.loop-found.invariant.config;
      regex = searches ∙ c.loop-found.invariant.regex;
      passes = λ q o made. c.loop-found.invariant.passes q o (passes q o made);
      going = rw c.in_ok-found.was at steps.8;
      progress = iterated_next c.args.regex.now.meta c.args.text.now old.input.config old.state (remaining_matches c.args.regex.now.meta c.args.text.now old.input.config old.state)
          c.loop-found.invariant.config c.loop-found.invariant.progress new.input.config new.state
          (remaining_matches c.args.regex.now.meta c.args.text.now new.input.config new.state) returns.0 returns.1 returns stays;
    }

pub returns-in_err-found-clause-fails : goal.returns-in_err-found-clause-fails
returns-in_err-found-clause-fails c =
    let p = err_from_is_err_and c.from_residual.result c.from_residual.ensures.1 in
    let s = c.args.regex.now.meta in
    let text = c.args.text.now in
    let match_iter = c.loop-found.matches.match_iter in
    let told = rw (c.in_err-found.was, c.loop-found.invariant.regex, c.loop-found.invariant.text) at c.in-Some.ensures.steps.6 in
    rw (p.1, p.2) (item_error_is s text match_iter.input.config match_iter.input.config.start match_iter.state c.loop-found.invariant.config c.loop-found.invariant.passes _ told)

pub returns-in_err-found-clause-passes : goal.returns-in_err-found-clause-passes
returns-in_err-found-clause-passes c =
    let p = err_from_is_err_and c.from_residual.result c.from_residual.ensures.1 in
    let s = c.args.regex.now.meta in
    let text = c.args.text.now in
    let match_iter = c.loop-found.matches.match_iter in
    let told = rw (c.in_err-found.was, c.loop-found.invariant.regex, c.loop-found.invariant.text) at c.in-Some.ensures.steps.6 in
    rw (p.1, p.2) (λ other. iterated_fails s text match_iter.input.config match_iter.state (remaining_matches s text match_iter.input.config match_iter.state) c.loop-found.invariant.config
    c.loop-found.invariant.progress _ told)

pub returns-in_err-write_groups-clause-fails : goal.returns-in_err-write_groups-clause-fails
returns-in_err-write_groups-clause-fails c =
    let p = err_from_is_err_and c.from_residual-in_err-write_groups.result c.from_residual-in_err-write_groups.ensures.1 in
    rw (p.1, p.2) (memory_is_error c.args.regex.now.meta.options (string_bytes c.args.regex.now.meta.pattern) c.args.text.now)

pub returns-in_err-push-clause-fails : goal.returns-in_err-push-clause-fails
returns-in_err-push-clause-fails c =
    let p = err_from_is_err_and c.from_residual-in_err-push.result c.from_residual-in_err-push.ensures.1 in
    rw (p.1, p.2) (memory_is_error c.args.regex.now.meta.options (string_bytes c.args.regex.now.meta.pattern) c.args.text.now)

pub returns-clause-lines : goal.returns-clause-lines
returns-clause-lines c =
    let s = c.args.regex.now.meta in
    let text = c.args.text.now in
    let done : string_bytes c.loop-found.lines ≡ group_lines (all_matches s text (whole text)) = first_of (search rules, grind (arith, common_steps)) in
    done ∙ ap (λ ms. group_lines ms) (all_are s text)

pub returns-clause-stays : goal.returns-clause-stays
returns-clause-stays c =
    let s = c.args.regex.now.meta in
    let text = c.args.text.now in
    let match_iter = c.loop-found.matches.match_iter in
    let none = rw (c.loop-found.invariant.regex, c.loop-found.invariant.text) at c.in_default.ensures.steps.0 in
    let stays = rw (c.loop-found.invariant.regex, c.loop-found.invariant.text) at c.in_default.ensures.steps.10 in
    iterated_stays s text match_iter.input.config match_iter.state (remaining_matches s text match_iter.input.config match_iter.state) c.loop-found.invariant.config c.loop-found.invariant.progress
    none.0 (stays c.loop-found.invariant.going)
