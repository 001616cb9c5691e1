use Rattle.std.proofs.Common.{◌∙◌, sym, ap, arith}
use Rattle.fancy_regex_states.specs.declared.state.State.{State}
use Rattle.fancy_regex_parts.specs.Walk.{part_end_of}
use Rattle.fancy_regex_parts.proofs.groups.part_end.Goals as goal

pub returns-in_ok-end-in-Split-clause-end : goal.returns-in_ok-end-in-Split-clause-end
returns-in_ok-end-in-Split-clause-end c view ways has true_of =
    c.in_ok-end-in-Split.ensures.answer view ways has true_of ∙ ap (λ (s : State). part_end_of ways s c.args.at) (sym c.in-Split.is)

pub returns-in_ok-end-in-Atomic-clause-end : goal.returns-in_ok-end-in-Atomic-clause-end
returns-in_ok-end-in-Atomic-clause-end c view ways has true_of =
    c.in_ok-end-in-Atomic.ensures.answer view ways has true_of ∙ ap (λ (s : State). part_end_of ways s c.args.at) (sym c.in-Atomic.is)

pub returns-in_ok-end-in-Split-clause-counted : goal.returns-in_ok-end-in-Split-clause-counted
returns-in_ok-end-in-Split-clause-counted c = rw c.in-Split.is (omega (arith, c.in_ok-end-in-Split.ensures.counted))

pub returns-in_ok-end-in-Atomic-clause-counted : goal.returns-in_ok-end-in-Atomic-clause-counted
returns-in_ok-end-in-Atomic-clause-counted c = rw c.in-Atomic.is (omega (arith, c.in_ok-end-in-Atomic.ensures.counted))
