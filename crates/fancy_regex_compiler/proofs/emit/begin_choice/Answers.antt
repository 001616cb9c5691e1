use Rattle.std.proofs.Common.{◌∙◌, arith}
use Rattle.fancy_regex_compiler.proofs.OutcomeLemmas.{appends_error}
use Rattle.fancy_regex_compiler.proofs.emit.begin_choice.Goals as goal

pub returns-in_err-flush-clause-appends : goal.returns-in_err-flush-clause-appends
returns-in_err-flush-clause-appends c =
    let e = c.in_err-flush in
    appends_error c.from_residual.result e.field-0.0 c.from_residual.ensures.1 e.ensures.cap (λ too. let lt = e.ensures.full too in omega (arith, lt)) e.ensures.refused

pub returns-in_err-push_insn-clause-appends : goal.returns-in_err-push_insn-clause-appends
returns-in_err-push_insn-clause-appends c =
    let e = c.in_err-push_insn in
    appends_error c.from_residual-in_err-push_insn.result e.field-0.0 c.from_residual-in_err-push_insn.ensures.1 (e.ensures.cap ∙ c.in_ok-flush.ensures.cap)
    (λ too. let lt = e.ensures.full too in omega (arith, lt, c.in_ok-flush.ensures.long, c.in_ok-flush.ensures.cap)) e.ensures.refused
