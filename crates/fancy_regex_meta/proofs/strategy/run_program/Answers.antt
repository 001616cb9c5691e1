use Rattle.std.proofs.Common.{◌∙◌, ◌*◌, ap, subst, false, arith, ℕ, []}
use Rattle.std.specs.Prelude.{option_map, Ok, Err, Option, Vec}
use Rattle.std.specs.declared.alloc.Global.{Global}
use Rattle.fancy_regex_meaning.specs.Groups.{pattern_of}
use Rattle.fancy_regex_meaning.specs.Searches.{first_match}
use Rattle.fancy_regex_class.specs.RunInputs.{setting_for}
use Rattle.fancy_regex_machine.specs.RunArguments.{run_parameters_for}
use Rattle.fancy_regex_machine.specs.RunAnswers.{AgreesWithMachine, AnswersPattern, SpanAgreesWithMachine, SpanAnswersPattern, ReportsPassedLimit}
use Rattle.fancy_regex_meta.specs.FoundParts.{parts_in}
use Rattle.fancy_regex_meta.specs.SearchLimits.{MachineStaysInLimits}
use Rattle.fancy_regex_meta.specs.Strategies.{run_options_of, search_of}
use Rattle.fancy_regex_meta.proofs.SeekLemmas.{CanSeek}
use Rattle.fancy_regex_meta.proofs.MatchOffsetLemmas.{first-parts}
use Rattle.fancy_regex_meta.proofs.ProgramLemmas.{program-answers, program-spans, span-parts, span-error, run-requirements, program-limits, program-passed, program-stays, span-stays}
use Rattle.fancy_regex_meta.proofs.strategy.run_program.Goals as goal

pub returns-in-Ok-ended-clause-answer : goal.returns-in-Ok-ended-clause-answer
returns-in-Ok-ended-clause-answer c o t does =
    let prog = c.args.run.now.prog.now in
    let run = c.args.run.now.options.now in
    let text = c.args.text.now in
    let input = c.args.input.now in
    let can : CanSeek o t text input run.seek = record { table = does.3; order = does.4; utf8 = c.utf8.text; first = c.requires.first; stop = c.requires.range } in
    let rules = run_parameters_for prog.unicode prog.longest text input (run_options_of o run.seek) in
    let config = run-requirements prog t rules does.0 c.utf8.text (omega (arith, c.type_inv.text)) c.requires.first c.requires.range in
    let answer : AnswersPattern prog text input run (Ok c.in-Ok-ended.slots) = rw c.in-Ok-ended.is at c.in_ok-ended-in-Groups.ensures.answer in
    let told = subst (λ r. AnswersPattern prog text input r (Ok c.in-Ok-ended.slots)) does.5 answer (pattern_of t) false does.0.program config in
    let found = program-answers o t text input run.seek can prog.unicode prog.longest prog.whole does.1 does.2 does.0.whole _ told in
    rw c.in-Groups.is (c.found_groups.ensures ∙ ap (option_map parts_in) found ∙ first-parts t (setting_for o.unicode_mode text input) (search_of o input) c.utf8.text c.requires.first c.requires.range)

pub returns-in-Ok-clause-answer : goal.returns-in-Ok-clause-answer
returns-in-Ok-clause-answer c o t does =
    let prog = c.args.run.now.prog.now in
    let run = c.args.run.now.options.now in
    let text = c.args.text.now in
    let input = c.args.input.now in
    let can : CanSeek o t text input run.seek = record { table = does.3; order = does.4; utf8 = c.utf8.text; first = c.requires.first; stop = c.requires.range } in
    let rules = run_parameters_for prog.unicode prog.longest text input (run_options_of o run.seek) in
    let config = run-requirements prog t rules does.0 c.utf8.text (omega (arith, c.type_inv.text)) c.requires.first c.requires.range in
    let fm = first_match (setting_for o.unicode_mode text input) (pattern_of t) (search_of o input) in
    let answer : SpanAnswersPattern prog text input run (Ok c.in-Ok.span) = rw c.in-Ok.is at c.in_ok-ended-in-Span.ensures.answer in
    let told = subst (λ r. SpanAnswersPattern prog text input r (Ok c.in-Ok.span)) does.5 answer (pattern_of t) false does.0.program config in
    let found = program-spans o t text input run.seek can prog.unicode prog.longest does.1 does.2 _ told in
    rw c.in-Span.is (c.found_span.ensures ∙ ap (option_map (λ (s : ℕ × ℕ). (s.0, (s.1, [])))) found ∙ span-parts t fm)

pub returns-in-Ok-ended-clause-stays : goal.returns-in-Ok-ended-clause-stays
returns-in-Ok-ended-clause-stays c o under =
    let prog = c.args.run.now.prog.now in
    let run = c.args.run.now.options.now in
    let text = c.args.text.now in
    let input = c.args.input.now in
    let agrees : AgreesWithMachine prog text input run (Ok c.in-Ok-ended.slots) = rw c.in-Ok-ended.is at c.in_ok-ended-in-Groups.ensures.machine in
    subst (MachineStaysInLimits prog text input) under (program-stays prog text input run (2 * prog.groups) _ agrees)

pub returns-in-Ok-clause-stays : goal.returns-in-Ok-clause-stays
returns-in-Ok-clause-stays c o under =
    let prog = c.args.run.now.prog.now in
    let run = c.args.run.now.options.now in
    let text = c.args.text.now in
    let input = c.args.input.now in
    let agrees : SpanAgreesWithMachine prog text input run (Ok c.in-Ok.span) = rw c.in-Ok.is at c.in_ok-ended-in-Span.ensures.machine in
    subst (MachineStaysInLimits prog text input) under (span-stays prog text input run _ agrees)

pub returns-in-Err-clause-limits : goal.returns-in-Err-clause-limits
returns-in-Err-clause-limits c o t does =
    let prog = c.args.run.now.prog.now in
    let run = c.args.run.now.options.now in
    let text = c.args.text.now in
    let input = c.args.input.now in
    let can : CanSeek o t text input run.seek = record { table = does.3; order = does.4; utf8 = c.utf8.text; first = c.requires.first; stop = c.requires.range } in
    let rules = run_parameters_for prog.unicode prog.longest text input (run_options_of o run.seek) in
    let config = run-requirements prog t rules does.0 c.utf8.text (omega (arith, c.type_inv.text)) c.requires.first c.requires.range in
    let answer : SpanAnswersPattern prog text input run (Err c.in-Err.error) = rw c.in-Err.is at c.in_ok-ended-in-Span.ensures.answer in
    program-limits o t text input run.seek can prog.unicode prog.longest prog.whole c.in-Err.error does.1 does.2
    (span-error rules (pattern_of t) prog.whole false c.in-Err.error o.backtrack_limit
    (subst (λ r. SpanAnswersPattern prog text input r (Err c.in-Err.error)) does.5 answer (pattern_of t) false does.0.program config))

pub returns-in-Err-clause-passed : goal.returns-in-Err-clause-passed
returns-in-Err-clause-passed c o t does =
    let prog = c.args.run.now.prog.now in
    let run = c.args.run.now.options.now in
    let text = c.args.text.now in
    let input = c.args.input.now in
    let rules = run_parameters_for prog.unicode prog.longest text input (run_options_of o run.seek) in
    let config = run-requirements prog t rules does.0 c.utf8.text (omega (arith, c.type_inv.text)) c.requires.first c.requires.range in
    let limits : ReportsPassedLimit prog text input run {A = Option (ℕ × ℕ)} (Err c.in-Err.error) = rw c.in-Err.is at c.in_ok-ended-in-Span.ensures.limits in
    program-passed prog run o text input c.in-Err.error
    (subst (λ r. ReportsPassedLimit prog text input r {A = Option (ℕ × ℕ)} (Err c.in-Err.error)) does.5 limits (pattern_of t) false does.0.program config)

pub returns-in-Err-ended-clause-limits : goal.returns-in-Err-ended-clause-limits
returns-in-Err-ended-clause-limits c o t does =
    let prog = c.args.run.now.prog.now in
    let run = c.args.run.now.options.now in
    let text = c.args.text.now in
    let input = c.args.input.now in
    let can : CanSeek o t text input run.seek = record { table = does.3; order = does.4; utf8 = c.utf8.text; first = c.requires.first; stop = c.requires.range } in
    let rules = run_parameters_for prog.unicode prog.longest text input (run_options_of o run.seek) in
    let config = run-requirements prog t rules does.0 c.utf8.text (omega (arith, c.type_inv.text)) c.requires.first c.requires.range in
    let answer : AnswersPattern prog text input run (Err c.in-Err-ended.error) = rw c.in-Err-ended.is at c.in_ok-ended-in-Groups.ensures.answer in
    program-limits o t text input run.seek can prog.unicode prog.longest prog.whole c.in-Err-ended.error does.1 does.2
    (subst (λ r. AnswersPattern prog text input r (Err c.in-Err-ended.error)) does.5 answer (pattern_of t) false does.0.program config)

pub returns-in-Err-ended-clause-passed : goal.returns-in-Err-ended-clause-passed
returns-in-Err-ended-clause-passed c o t does =
    let prog = c.args.run.now.prog.now in
    let run = c.args.run.now.options.now in
    let text = c.args.text.now in
    let input = c.args.input.now in
    let rules = run_parameters_for prog.unicode prog.longest text input (run_options_of o run.seek) in
    let config = run-requirements prog t rules does.0 c.utf8.text (omega (arith, c.type_inv.text)) c.requires.first c.requires.range in
    let limits : ReportsPassedLimit prog text input run {A = Option (Vec ℕ Global)} (Err c.in-Err-ended.error) = rw c.in-Err-ended.is at c.in_ok-ended-in-Groups.ensures.limits in
    program-passed prog run o text input c.in-Err-ended.error
    (subst (λ r. ReportsPassedLimit prog text input r {A = Option (Vec ℕ Global)} (Err c.in-Err-ended.error)) does.5 limits (pattern_of t) false does.0.program config)
