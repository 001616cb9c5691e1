-- How long the program of a compiled pattern may be.
use Rattle.fancy_regex_meta.specs.Strategies.{StrategyKeepsCap}
use Rattle.fancy_regex_meta.specs.declared.meta_regex.MetaRegex.{MetaRegex}

-- The kept program has at most as many instructions as the options' `max_prog_size`, if that is set.
abbrev pub MetaKeepsCap : MetaRegex → Type 0
MetaKeepsCap s = StrategyKeepsCap s.options.max_prog_size s.strategy
