use Rattle.std.proofs.Common.{◌∙◌, arith}
use Rattle.fancy_regex_parts.proofs.MarkLemmas.{copies_most}
use Rattle.fancy_regex_parts.proofs.table.PartTable.with_marks.Goals as goal

pub returns-clause-still : goal.returns-clause-still
returns-clause-still c still q =
    let reaches = c.set_reaches.ensures.still (rw c.set_reaches.ensures.states at still) ∙ c.set_costs-2.ensures.reaches ∙ c.set_costs.ensures.reaches in
    rw (reaches, c.in_ok-reaches.ensures) (omega (arith, copies_most 0 c.len-2.result q))
