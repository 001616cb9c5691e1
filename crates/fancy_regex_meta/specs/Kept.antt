-- What a memory keeps of the searches of one text.
use Rattle.std.specs.Prelude.{ℕ, List, None, ◌≡◌}
use Rattle.fancy_regex_regular.specs.Kept.{IsKeptOf}
use Rattle.fancy_regex_regular.specs.declared.memory.RegularMemory.{RegularMemory}
use Rattle.fancy_regex_meta.specs.declared.memory.MetaMemory.{MetaMemory}
use Rattle.fancy_regex_meta.specs.declared.meta_regex.MetaRegex.{MetaRegex}
use Rattle.fancy_regex_meta.specs.declared.strategy.Strategy.{Strategy}
use Rattle.fancy_regex_meta.specs.declared.strategy.Strategy.TheVariants.{Easy, Linear, Program, Regular}

-- what the memory of states keeps, if it keeps anything, is true of this strategy's states and this text
abbrev pub StrategyKeeps : Strategy → List ℕ → RegularMemory → Type 0
StrategyKeeps (Easy easy) text parts = Unit {0}
StrategyKeeps (Linear linear prog) text parts = Unit {0}
StrategyKeeps (Program prog run) text parts = Unit {0}
StrategyKeeps (Regular regular prog run relaxed) text parts = IsKeptOf regular text parts

-- what the memory keeps, if it keeps anything, is true of this pattern and this text
abbrev pub MetaKeeps : MetaRegex → List ℕ → MetaMemory → Type 0
MetaKeeps s text memory = StrategyKeeps s.strategy text memory.parts
