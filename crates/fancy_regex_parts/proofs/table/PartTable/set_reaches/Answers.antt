use Rattle.std.proofs.Common.{sym, subst}
use Rattle.fancy_regex_parts.specs.Tables.{AreStill}
use Rattle.fancy_regex_parts.proofs.table.PartTable.set_reaches.Goals as goal

-- a state steps back
pub returns-then-not-raise_reaches-clause-still : goal.returns-then-not-raise_reaches-clause-still
returns-then-not-raise_reaches-clause-still c still =
    absurd (c.step_back.ensures.other c.if-not-step_back.false (subst AreStill (sym c.deref.ensures.value) still))

pub returns-clause-still : goal.returns-clause-still
returns-clause-still c still =
    absurd (c.step_back.ensures.other c.if-not-step_back.false (subst AreStill (sym c.deref.ensures.value) still))
