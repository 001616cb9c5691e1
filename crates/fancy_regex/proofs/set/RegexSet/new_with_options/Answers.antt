use Rattle.std.proofs.Common.{subst}
use Rattle.std.proofs.lemmas.Option.{same_Some}
use Rattle.fancy_regex.specs.declared.start_table.StartTable.{StartTable}
use Rattle.fancy_regex.specs.SetStarts.{PassesOver}
use Rattle.fancy_regex.proofs.set.RegexSet.new_with_options.Goals as goal

pub invariant_of-result : goal.invariant_of-result
invariant_of-result c =
    let regexes = c.in_ok-regexes.regexes.items in
    let passes = c.in_ok-start_table.ensures.passes regexes c.in_ok-regexes.ensures.members in
    record { passes = λ x e. subst (λ (t : StartTable). PassesOver regexes t) (same_Some c.in_ok-start_table.field-0 x e) passes }
