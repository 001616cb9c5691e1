use Rattle.std.proofs.Common.{◌∙◌, ap}
use Rattle.std.specs.Cow.{cow_str_bytes}
use Rattle.std.proofs.lemmas.Result.{err_from_is_err_and}
use Rattle.fancy_regex.specs.ReplacedTexts.{replaced_in}
use Rattle.fancy_regex.specs.SetMembers.{IsBuiltOf}
use Rattle.fancy_search_run.specs.Requests.{regex_options}
use Rattle.fancy_search_run.proofs.AnswerLemmas.{of_compiled, refusal_is_fault, error_is_fault}
use Rattle.fancy_search_run.proofs.answer.replace.Goals as goal

pub returns-in_err-regex : goal.returns-in_err-regex
returns-in_err-regex c =
    let p = err_from_is_err_and c.from_residual.result c.from_residual.ensures.1 in
    rw (p.1, p.2) (refusal_is_fault (regex_options c.args.options) c.args.pattern.now c.args.text.now _ c.in_err-regex.ensures.refused)

pub returns-in_err-replaced_text : goal.returns-in_err-replaced_text
returns-in_err-replaced_text c =
    let p = err_from_is_err_and c.from_residual-in_err-replaced_text.result c.from_residual-in_err-replaced_text.ensures.1 in
    let made = c.in_ok-regex.ensures in
    let built : IsBuiltOf (regex_options c.args.options) c.args.pattern.now c.in_ok-regex.regex =
    record { pattern_is = made.pattern; options_are = made.options; cap = made.cap; accepted = made.accepted } in
    rw (p.1, p.2) (error_is_fault (regex_options c.args.options) c.args.pattern.now c.args.text.now c.in_ok-regex.regex built _ c.in_err-replaced_text.ensures.fails c.in_err-replaced_text.ensures.passes)

pub returns : goal.returns
returns c =
    let made = c.in_ok-regex.ensures in
    let built : IsBuiltOf (regex_options c.args.options) c.args.pattern.now c.in_ok-regex.regex =
    record { pattern_is = made.pattern; options_are = made.options; cap = made.cap; accepted = made.accepted } in (
      made.accepted,
      ap cow_str_bytes c.done.ensures.output ∙ c.in_ok-replaced_text.ensures.text
          ∙ of_compiled (λ o p. replaced_in o p c.args.template.now c.args.text.now) c.in_ok-regex.regex.meta (regex_options c.args.options) c.args.pattern.now made.pattern made.options,
      c.done.ensures.status,
      (c.in_ok-regex.regex, built, c.in_ok-replaced_text.ensures.stays),
    )
