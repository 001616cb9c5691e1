use Rattle.std.proofs.Common.{◌≡◌, ◌∙◌, ap}
use Rattle.std.specs.Prelude.{string_bytes}
use Rattle.std.proofs.lemmas.Result.{err_from_is_err_and}
use Rattle.fancy_search_text.specs.Lines.{group_lines, groups_text, spans_of}
use Rattle.fancy_regex.specs.TextMatches.{matches_in}
use Rattle.fancy_regex.specs.SetMembers.{IsBuiltOf}
use Rattle.fancy_search_run.specs.Answers.{status_of_lines}
use Rattle.fancy_search_run.specs.Requests.{regex_options}
use Rattle.fancy_search_run.proofs.AnswerLemmas.{of_compiled, refusal_is_fault, error_is_fault, status_same}
use Rattle.fancy_search_run.proofs.answer.captures.Goals as goal

pub returns-in_err-regex : goal.returns-in_err-regex
returns-in_err-regex c =
    let p = err_from_is_err_and c.from_residual.result c.from_residual.ensures.1 in
    rw (p.1, p.2) (refusal_is_fault (regex_options c.args.options) c.args.pattern.now c.args.text.now _ c.in_err-regex.ensures.refused)

pub returns-in_err-group_lines : goal.returns-in_err-group_lines
returns-in_err-group_lines c =
    let p = err_from_is_err_and c.from_residual-in_err-group_lines.result c.from_residual-in_err-group_lines.ensures.1 in
    let made = c.in_ok-regex.ensures in
    let built : IsBuiltOf (regex_options c.args.options) c.args.pattern.now c.in_ok-regex.regex =
    record { pattern_is = made.pattern; options_are = made.options; cap = made.cap; accepted = made.accepted } in
    rw (p.1, p.2) (error_is_fault (regex_options c.args.options) c.args.pattern.now c.args.text.now c.in_ok-regex.regex built _ c.in_err-group_lines.ensures.fails c.in_err-group_lines.ensures.passes)

pub returns : goal.returns
returns c =
    let made = c.in_ok-regex.ensures in
    let matches = matches_in (regex_options c.args.options) c.args.pattern.now c.args.text.now in
    let lines : string_bytes c.in_ok-group_lines.field-0 ≡ group_lines matches =
    c.in_ok-group_lines.ensures.lines ∙ of_compiled (λ o p. group_lines (matches_in o p c.args.text.now)) c.in_ok-regex.regex.meta (regex_options c.args.options) c.args.pattern.now made.pattern made.options in
    let built : IsBuiltOf (regex_options c.args.options) c.args.pattern.now c.in_ok-regex.regex =
    record { pattern_is = made.pattern; options_are = made.options; cap = made.cap; accepted = made.accepted } in
    (made.accepted, c.found.ensures.output ∙ lines, c.found.ensures.status ∙ ap status_of_lines lines ∙ status_same (λ m. groups_text (spans_of m)) matches, (c.in_ok-regex.regex, built, c.in_ok-group_lines.ensures.stays))
