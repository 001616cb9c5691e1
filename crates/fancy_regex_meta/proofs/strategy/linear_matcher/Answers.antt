use Rattle.fancy_regex_meta.proofs.StrategyLemmas.{matcher_is}
use Rattle.fancy_regex_meta.proofs.strategy.linear_matcher.Goals as goal

pub returns-in-Ok-clause-matcher : goal.returns-in-Ok-clause-matcher
returns-in-Ok-clause-matcher c =
    matcher_is c.args.options.now c.args.info.now c.compile_options-wanted.result.unicode c.compile_options-wanted.result.leftmost_longest c.in-Ok.found
    c.compile_options-wanted.ensures.unicode c.compile_options-wanted.ensures.longest c.if-options.false c.in-Ok.ensures.made c.in-Ok.ensures.options
