use Rattle.fancy_regex_meta.proofs.StrategyLemmas.{next_is_skip}
use Rattle.fancy_regex_meta.proofs.strategy.next_start.Goals as goal

pub returns-clause-answer : goal.returns-clause-answer
returns-clause-answer c o t relaxed allowed =
    next_is_skip o c.args.text.now c.args.input.now t c.in_ok-found.found allowed
    (c.in_ok-found.ensures.answer o.unicode_mode o.leftmost_longest t (rw c.in-Some.is at relaxed))
