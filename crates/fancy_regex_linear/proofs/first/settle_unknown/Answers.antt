use Rattle.std.proofs.Common.{true}
use Rattle.fancy_regex_class.specs.Looks.{looked_text, look_count}
use Rattle.fancy_regex_linear.proofs.AloneLemmas.{settled_after}
use Rattle.fancy_regex_linear.proofs.first.settle_unknown.Goals as goal

pub returns-then-unknown-place-clause-settled : goal.returns-then-unknown-place-clause-settled
returns-then-unknown-place-clause-settled c =
    settled_after c.args.context.now (looked_text c.args.text.now) (look_count c.args.text.now) (look_count c.by_attempt.new.text) true c.args.unknown.now.place c.args.unknown.now.from
    c.args.memory.now c.by_attempt.new.memory c.in_ok-settled.settled (c.in_ok-settled.ensures.settled true)

pub returns-clause-settled : goal.returns-clause-settled
returns-clause-settled c = c.in_ok-settled-2.ensures.settled true
