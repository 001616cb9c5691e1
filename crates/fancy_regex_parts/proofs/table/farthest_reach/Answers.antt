use Rattle.std.proofs.Common.{inl, inr, refl}
use Rattle.fancy_regex_parts.proofs.table.farthest_reach.Goals as goal

pub returns-then-step_back-clause-far : goal.returns-then-step_back-clause-far
returns-then-step_back-clause-far c = inl refl

pub returns-then-step_back-clause-still : goal.returns-then-step_back-clause-still
returns-then-step_back-clause-still c still = absurd (c.step_back.ensures.other c.if-step_back.true still)

pub returns-else-step_back-clause-far : goal.returns-else-step_back-clause-far
returns-else-step_back-clause-far c = inr (c.step_back.ensures.still c.if-step_back.false, refl)
