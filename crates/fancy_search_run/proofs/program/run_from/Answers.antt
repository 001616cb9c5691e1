use Rattle.std.proofs.Common.{◌≡◌, ◌∙◌, ℕ, List, [], true, map, refl, sym, subst}
use Rattle.std.specs.Prelude.{IfOk, IfSome}
use Rattle.std.proofs.lemmas.Option.{same_Some}
use Rattle.std.proofs.lemmas.Result.{err_from_is_err_and}
use Rattle.fancy_search_words.specs.Requests.{Request, request_of_arguments}
use Rattle.fancy_search_run.specs.Requests.{reads_input}
use Rattle.fancy_search_run.specs.RunOutcome.{IsDueFor, Outcome}
use Rattle.fancy_search_run.proofs.Outcomes.{some_input, outcome_of_input, silent_of_input, outcome_reading, outcome_words, after_words, after_failure, after_end, refuses_words, some_is_not_none}
use Rattle.fancy_search_run.proofs.program.run_from.Goals as goal

pub returns-in_err-arguments-clause-words : goal.returns-in_err-arguments-clause-words
returns-in_err-arguments-clause-words g c =
    let p = err_from_is_err_and c.from_residual.result c.from_residual.ensures.1 in
    λ none. (rw (p.1, p.2) (refuses_words (map g.S.AsStr.text c.args.words.now) _ c.in_err-arguments.ensures.err), refl {a = c.args.source.now.reader.now}, refl {a = c.args.source.now.last})

pub returns-in_err-arguments-clause-outcome : goal.returns-in_err-arguments-clause-outcome
returns-in_err-arguments-clause-outcome g c =
    let p = err_from_is_err_and c.from_residual.result c.from_residual.ensures.1 in
    let known = some_input (g.R.Read.remaining c.args.source.now.reader.now) in
    λ request asks. (known.0, known.1, rw (p.1, p.2) (outcome_words request _ _ known.0 (map g.S.AsStr.text c.args.words.now) _ c.in_err-arguments.ensures.err asks))

pub returns-in_err-arguments-clause-end : goal.returns-in_err-arguments-clause-end
returns-in_err-arguments-clause-end g c =
    let p = err_from_is_err_and c.from_residual.result c.from_residual.ensures.1 in
    λ request asks reads. rw (p.1, p.2) (after_words _ _ request (map g.S.AsStr.text c.args.words.now) _ c.in_err-arguments.ensures.err asks)

pub returns-in_err-input-clause-words : goal.returns-in_err-input-clause-words
returns-in_err-input-clause-words g c = λ none. absurd (some_is_not_none _ _ c.in_ok-arguments.ensures.ok none)

pub returns-in_err-input-clause-outcome : goal.returns-in_err-input-clause-outcome
returns-in_err-input-clause-outcome g c =
    let p = err_from_is_err_and c.from_residual-in_err-input.result c.from_residual-in_err-input.ensures.1 in
    let known = some_input (g.R.Read.remaining c.args.source.now.reader.now) in
    λ request asks.
    let same : request_of_arguments c.in_ok-arguments.arguments ≡ request = same_Some _ _ (sym c.in_ok-arguments.ensures.ok ∙ asks) in
    let fault = c.in_err-input.ensures.fault in (
      known.0,
      known.1,
      subst (λ (r : Request). Outcome r (g.W.Write.contents c.args.sink.now.writer.now) (g.W.Write.contents c.args.sink.now.writer.now) known.0 c.from_residual-in_err-input.result) same
          (rw (p.1, p.2) (outcome_reading (request_of_arguments c.in_ok-arguments.arguments) _ _ known.0 _ _ fault.0 fault.1)),
    )

pub returns-in_err-input-clause-end : goal.returns-in_err-input-clause-end
returns-in_err-input-clause-end g c =
    let p = err_from_is_err_and c.from_residual-in_err-input.result c.from_residual-in_err-input.ensures.1 in
    λ request asks reads. rw (p.1, p.2) (after_failure _ _ _ c.in_err-input.ensures.fault.0)

pub returns-clause-words : goal.returns-clause-words
returns-clause-words g c = λ none. absurd (some_is_not_none _ _ c.in_ok-arguments.ensures.ok none)

pub returns-clause-outcome : goal.returns-clause-outcome
returns-clause-outcome g c =
    λ request asks.
    let same : request_of_arguments c.in_ok-arguments.arguments ≡ request = same_Some _ _ (sym c.in_ok-arguments.ensures.ok ∙ asks) in
    let C = g.W.Write.contents in
    let bytes = c.in_ok-input.input.items in
    let ended : Outcome (request_of_arguments c.in_ok-arguments.arguments) (C c.args.sink.now.writer.now) (C c.respond.new.sink.writer.now) bytes c.respond.result = rw (← c.deref.ensures.value) c.respond.ensures.outcome in
    let found = outcome_of_input (request_of_arguments c.in_ok-arguments.arguments) (C c.args.sink.now.writer.now) (C c.respond.new.sink.writer.now) (g.R.Read.remaining c.args.source.now.reader.now) bytes
    c.respond.result c.in_ok-input.ensures.read ended in
    (found.0, found.1, subst (λ (r : Request). Outcome r (C c.args.sink.now.writer.now) (C c.respond.new.sink.writer.now) found.0 c.respond.result) same found.2)

pub returns-clause-silent : goal.returns-clause-silent
returns-clause-silent g c =
    λ request asks failed.
    let same : request_of_arguments c.in_ok-arguments.arguments ≡ request = same_Some _ _ (sym c.in_ok-arguments.ensures.ok ∙ asks) in
    let known = g.R.Read.remaining c.args.source.now.reader.now in
    let bytes = c.in_ok-input.input.items in
    let due : IfOk c.respond.result (λ status. IsDueFor (request_of_arguments c.in_ok-arguments.arguments) bytes [] status) = rw (← c.deref.ensures.value) (c.respond.ensures.silent failed) in
    subst (λ (r : Request). IfOk c.respond.result (λ status. (input : List ℕ) × IfSome known (λ xs. input ≡ xs) × IsDueFor r input [] status)) same
    (silent_of_input (request_of_arguments c.in_ok-arguments.arguments) known bytes c.respond.result c.in_ok-input.ensures.read due)

pub returns-clause-end : goal.returns-clause-end
returns-clause-end g c =
    λ request asks reads.
    let same : request_of_arguments c.in_ok-arguments.arguments ≡ request = same_Some _ _ (sym c.in_ok-arguments.ensures.ok ∙ asks) in
    let read : reads_input (request_of_arguments c.in_ok-arguments.arguments).command ≡ true = subst (λ (r : Request). reads_input r.command ≡ true) (sym same) reads in
    after_end _ _ c.respond.result c.respond.ensures.input (c.in_ok-input.ensures.end read)
