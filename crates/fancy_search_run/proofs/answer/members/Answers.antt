use Rattle.std.proofs.Common.{◌≡◌, ◌∙◌, List, ap}
use Rattle.std.specs.Prelude.{string_bytes}
use Rattle.std.proofs.lemmas.Result.{err_from_is_err_and}
use Rattle.fancy_search_text.specs.Members.{Source, answer_in, member_lines, members_found, sources_of}
use Rattle.fancy_search_run.specs.Answers.{members_in, status_of_lines}
use Rattle.fancy_search_run.specs.Requests.{regex_options}
use Rattle.fancy_search_words.specs.Requests.{texts_of}
use Rattle.fancy_search_run.proofs.AnswerLemmas.{all_accepted, members_status, set_error_is_fault, set_refusal_is_fault, sources_same}
use Rattle.fancy_search_run.proofs.answer.members.Goals as goal

pub returns-in_err-set : goal.returns-in_err-set
returns-in_err-set c =
    let p = err_from_is_err_and c.from_residual.result c.from_residual.ensures.1 in
    rw (p.1, p.2) (set_refusal_is_fault (regex_options c.args.options) (texts_of c.args.patterns.now) c.args.text.now _ c.in_err-set.ensures.refused)

pub returns-in_err-member_lines : goal.returns-in_err-member_lines
returns-in_err-member_lines c =
    let p = err_from_is_err_and c.from_residual-in_err-member_lines.result c.from_residual-in_err-member_lines.ensures.1 in
    let o = regex_options c.args.options in
    let patterns = texts_of c.args.patterns.now in
    let built = c.in_ok-set.ensures.members in
    rw (p.1, p.2) (set_error_is_fault o patterns c.args.text.now (sources_of c.in_ok-set.set) (sources_same o patterns c.in_ok-set.set.regexes.items built)
    c.in_ok-set.set.regexes.items built _ c.in_err-member_lines.ensures.fails c.in_err-member_lines.ensures.passes)

pub returns : goal.returns
returns c =
    let o = regex_options c.args.options in
    let patterns = texts_of c.args.patterns.now in
    let text = c.args.text.now in
    let regexes = c.in_ok-set.set.regexes.items in
    let built = c.in_ok-set.ensures.members in
    let found = members_in o patterns text in
    let lines : string_bytes c.in_ok-member_lines.field-0 ≡ member_lines found =
    c.in_ok-member_lines.ensures.lines ∙ ap (λ (s : List Source). member_lines (members_found (answer_in s text))) (sources_same o patterns regexes built) in
    (all_accepted o patterns regexes built, c.found.ensures.output ∙ lines, c.found.ensures.status ∙ ap status_of_lines lines ∙ members_status found, (regexes, built, c.in_ok-member_lines.ensures.stays))
