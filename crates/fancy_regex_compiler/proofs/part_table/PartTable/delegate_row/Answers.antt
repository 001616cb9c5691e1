use Rattle.std.proofs.Common.{false, subst}
use Rattle.std.specs.Prelude.{option_map, IfOk, IfErr}
use Rattle.fancy_regex_program.specs.Parts.{IsDelegateIfAny, IsPartCause}
use Rattle.fancy_regex_compiler.proofs.part_table.PartTable.delegate_row.Goals as goal

pub returns-clause-value : goal.returns-clause-value
returns-clause-value c =
    subst (λ t. IfOk c.delegate.result (λ found. IsDelegateIfAny c.args.unicode false t (option_map (λ d. d.value) found))) c.in_ok-row.ensures c.delegate.ensures.value

pub returns-clause-refused : goal.returns-clause-refused
returns-clause-refused c = subst (λ t. IfErr c.delegate.result (IsPartCause c.args.unicode false t)) c.in_ok-row.ensures c.delegate.ensures.refused
