-- That a memory is of a pattern and a text is so in one way.
use Rattle.std.specs.Prelude.{ℕ, List}
use Rattle.std.specs.Coded.{Unit-prop}
use Rattle.fancy_regex_regular.specs.KeptProps.{kept_prop}
use Rattle.fancy_regex_regular.specs.declared.memory.RegularMemory.{RegularMemory}
use Rattle.fancy_regex_meta.specs.Kept.{StrategyKeeps, MetaKeeps}
use Rattle.fancy_regex_meta.specs.declared.memory.MetaMemory.{MetaMemory}
use Rattle.fancy_regex_meta.specs.declared.meta_regex.MetaRegex.{MetaRegex}
use Rattle.fancy_regex_meta.specs.declared.strategy.Strategy.{Strategy}
use Rattle.fancy_regex_meta.specs.declared.strategy.Strategy.TheVariants.{Easy, Linear, Program, Regular}

strategy_prop : (strategy : Strategy) (text : List ℕ) (parts : RegularMemory) → IsProp (StrategyKeeps strategy text parts)
strategy_prop (Easy easy) text parts = Unit-prop
strategy_prop (Linear linear prog) text parts = Unit-prop
strategy_prop (Program prog run) text parts = Unit-prop
strategy_prop (Regular regular prog run relaxed) text parts = kept_prop regular text parts

pub keeps_prop : (s : MetaRegex) (text : List ℕ) (memory : MetaMemory) → IsProp (MetaKeeps s text memory)
keeps_prop s text memory = strategy_prop s.strategy text memory.parts
