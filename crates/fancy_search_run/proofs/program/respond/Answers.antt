use Rattle.std.proofs.Common.{◌∙◌, List, ℕ, subst, sym}
use Rattle.std.specs.Cow.{cow_str_bytes}
use Rattle.std.specs.Io.KnownBytes.{Appends}
use Rattle.std.proofs.lemmas.Result.{err_from_is_err_and}
use Rattle.fancy_search_run.specs.Answers.{IsDue}
use Rattle.fancy_search_run.specs.Requests.{regex_options}
use Rattle.fancy_search_run.specs.RunOutcome.{AppendsPrefix}
use Rattle.fancy_search_words.specs.Requests.{command_of, request_of_arguments}
use Rattle.fancy_search_run.proofs.Outcomes.{outcome_fault, fault_is_not_input}
use Rattle.fancy_search_run.proofs.program.respond.Goals as goal

pub returns-in_err-answer-clause-outcome : goal.returns-in_err-answer-clause-outcome
returns-in_err-answer-clause-outcome g c =
    let p = err_from_is_err_and c.from_residual.result c.from_residual.ensures.1 in
    let C = g.W.Write.contents in
    let request = request_of_arguments c.args.arguments in
    rw (p.1, p.2) (outcome_fault request (C c.args.sink.now.writer.now) (C c.args.sink.now.writer.now) c.args.input.now (λ reads. c.in-Ok.ensures.cases.1) _ (rw c.in-Ok.ensures.cases.0 at c.in_err-answer.ensures))

pub returns-in_err-answer-clause-input : goal.returns-in_err-answer-clause-input
returns-in_err-answer-clause-input g c =
    let p = err_from_is_err_and c.from_residual.result c.from_residual.ensures.1 in
    rw (p.1, p.2) (fault_is_not_input (regex_options c.args.arguments.options) (command_of c.args.arguments.subcommand) _ _ c.in_err-answer.ensures)

pub returns-in_err-write_all-clause-outcome : goal.returns-in_err-write_all-clause-outcome
returns-in_err-write_all-clause-outcome g c =
    let p = err_from_is_err_and c.from_residual-in_err-write_all.result c.from_residual-in_err-write_all.ensures.1 in
    let C = g.W.Write.contents in
    let output = cow_str_bytes c.in_ok-answer.answer.output in
    let due : IsDue (regex_options c.args.arguments.options) (command_of c.args.arguments.subcommand) c.args.input.now output c.in_ok-answer.answer.status =
    rw c.in-Ok.ensures.cases.0 at c.in_ok-answer.ensures in
    let wrote : AppendsPrefix (C c.args.sink.now.writer.now) (C c.write_all.new.sink.writer.now) output =
    subst (λ (bs : List ℕ). AppendsPrefix (C c.args.sink.now.writer.now) (C c.write_all.new.sink.writer.now) bs) (c.as_bytes.ensures.value ∙ c.as_str.ensures.value) c.in_err-write_all.ensures.err in
    rw (p.1, p.2, c.in_err-write_all.ensures.fault) (output, c.in_ok-answer.answer.status, ((λ reads. c.in-Ok.ensures.cases.1), due), wrote)

pub returns-clause-outcome : goal.returns-clause-outcome
returns-clause-outcome g c =
    let C = g.W.Write.contents in
    let output = cow_str_bytes c.in_ok-answer.answer.output in
    let due : IsDue (regex_options c.args.arguments.options) (command_of c.args.arguments.subcommand) c.args.input.now output c.in_ok-answer.answer.status =
    rw c.in-Ok.ensures.cases.0 at c.in_ok-answer.ensures in
    let wrote : Appends (C c.args.sink.now.writer.now) (C c.write_all.new.sink.writer.now) output =
    subst (λ (bs : List ℕ). Appends (C c.args.sink.now.writer.now) (C c.write_all.new.sink.writer.now) bs) (c.as_bytes.ensures.value ∙ c.as_str.ensures.value) c.in_ok-write_all.ensures.ok in
    (output, ((λ reads. c.in-Ok.ensures.cases.1), due), wrote)

pub returns-clause-silent : goal.returns-clause-silent
returns-clause-silent g c =
    λ failed.
    let o = regex_options c.args.arguments.options in
    let command = command_of c.args.arguments.subcommand in
    let due : IsDue o command c.args.input.now (cow_str_bytes c.in_ok-answer.answer.output) c.in_ok-answer.answer.status =
    rw c.in-Ok.ensures.cases.0 at c.in_ok-answer.ensures in (
      (λ reads. c.in-Ok.ensures.cases.1),
      subst (λ (out : List ℕ). IsDue o command c.args.input.now out c.in_ok-answer.answer.status)
          (sym (c.as_bytes.ensures.value ∙ c.as_str.ensures.value) ∙ c.in_ok-write_all.ensures.silent failed) due,
    )
