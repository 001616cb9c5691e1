use Rattle.std.proofs.Common.{rules, ◌≡◌, [], sym, subst}
use Rattle.fancy_regex_compiler.specs.Inlined.{AreInlined}
use Rattle.fancy_regex_compiler.proofs.InlinedLemmas.{none_inlined}
use Rattle.fancy_regex_compiler.proofs.inlined_groups.InlinedGroups.none.Goals as goal

pub returns-clause-inlined : goal.returns-clause-inlined
returns-clause-inlined c groups =
    let empty : c.new.result.items ≡ [] = search rules in
    subst (λ rooms. AreInlined groups rooms 0) (sym empty) (none_inlined groups)
