use Rattle.std.proofs.Common.{◌≡◌, ◌∙◌, Some, sym, arith}
use Rattle.fancy_regex_parts.specs.Tables.{mark_of}
use Rattle.fancy_regex_parts.proofs.VisitLemmas.{right_at}
use Rattle.fancy_regex_parts.proofs.groups.arrive.Goals as goal

pub open-requires-clause-mark : goal.open-requires-clause-mark
open-requires-clause-mark c =
    let mark : mark_of c.args.context.now.table.now c.args.state ≡ Some c.in-Some.mark = sym c.mark.ensures ∙ c.in-Some.is in
    let within = ((right_at c.args.context.now.table.now c.args.state c.requires.table c.requires.state).marked c.in-Some.mark mark).0 in
    omega (arith, within, c.requires.width)
