use Rattle.std.proofs.Common.{◌≡◌, ◌+◌, ◌∙◌, ap, sym, subst, map, length, true, false, true≢false}
use Rattle.fancy_regex_desugar.specs.ProgramSizes.{room}
use Rattle.fancy_regex_analysis.specs.AnalysisErrors.{is_too_complex}
use Rattle.fancy_regex_info.specs.Infos.{info_of}
use Rattle.fancy_regex_info.specs.declared.error.CompileError.{CompileError}
use Rattle.fancy_regex_program.specs.Caps.{IsPastCap, IsWithinCap}
use Rattle.fancy_regex_program.specs.Ops.{ops_of}
use Rattle.fancy_regex_program.specs.ValidPrograms.{IsValidProgram}
use Rattle.fancy_regex_compiler.specs.Known.{pat_with}
use Rattle.fancy_regex_compiler.specs.Writing.{info_at}
use Rattle.fancy_regex_compiler.specs.Refusals.{IsReasonWhere, IsExpandedPart}
use Rattle.fancy_regex_compiler.proofs.CapLemmas.{within, past, handed}
use Rattle.fancy_regex_compiler.proofs.KeptWhole.{written_is_valid}
use Rattle.fancy_regex_compiler.proofs.compiler.compile_groups.Goals as goal

pub returns-clause-cap : goal.returns-clause-cap
returns-clause-cap c =
    let most = c.args.options.now.max_prog_size in
    subst (IsWithinCap most) (ap (λ b. length b.items) (sym c.in_ok-prog.ensures.body))
    (within most (length c.in-Ok.written.0.items) c.in-Ok.ensures.cap)

pub returns-in-Err-clause-full : goal.returns-in-Err-clause-full
returns-in-Err-clause-full c =
    let most = c.args.options.now.max_prog_size in
    let long = room (pat_with (map info_at c.args.groups.now.items) (info_of c.args.info.now)) + 4 in
    subst (λ (e : CompileError). is_too_complex e ≡ true → IsPastCap most long) (sym c.capped_error.ensures) (past most c.in-Err.error long c.in-Err.ensures.full)

pub returns-in-Err-clause-refused : goal.returns-in-Err-clause-refused
returns-in-Err-clause-refused c =
    let infos = map info_at c.args.groups.now.items in
    let Reason = IsReasonWhere c.args.options.now.unicode infos (λ tree_context. IsExpandedPart tree_context true true false (info_of c.args.info.now)) in
    λ _.
    subst Reason (sym c.capped_error.ensures)
    (handed Reason (λ tree_context analyzed part. tt) c.args.options.now.max_prog_size c.in-Err.error c.in-Err.ensures.refused)

-- The program of a pattern that can be written is valid.
pub returns-then-not-is_valid_program-clause-refused : goal.returns-then-not-is_valid_program-clause-refused
returns-then-not-is_valid_program-clause-refused c = λ writable.
    let program = c.in-Ok.written in
    let valid : IsValidProgram (ops_of program.0.items) program.1 =
    written_is_valid c.args.options.now.max_prog_size c.args.most c.args.options.now.unicode c.args.whole c.args.options.now.anchored (map info_at c.args.groups.now.items) (info_of c.args.info.now)
    program.0.items program.1 c.in-Ok.ensures.wrote c.in-Ok.ensures.allowed writable in
    let complete = rw c.deref-3.ensures.value at c.is_valid_program.ensures.complete in
    λ tree_context analyzed part. true≢false (sym (complete valid) ∙ c.if-not-is_valid_program.true)
