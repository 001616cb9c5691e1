-- A memory that keeps nothing is of any pattern and any text.
use Rattle.std.proofs.Common.{◌≡◌, ℕ, List, Option, None, Some, sym, subst}
use Rattle.std.specs.Prelude.{IfSome}
use Rattle.fancy_regex_regular.specs.Kept.{IsTrueFor, IsWalkedFor}
use Rattle.fancy_regex_regular.specs.declared.memory.Kept.{Kept}
use Rattle.fancy_regex_regular.specs.declared.memory.RegularMemory.{RegularMemory}
use Rattle.fancy_regex_regular.specs.declared.regular.Regular.{Regular as RegularStates}
use Rattle.fancy_regex_meta.specs.Kept.{StrategyKeeps}
use Rattle.fancy_regex_meta.specs.declared.strategy.Strategy.{Strategy}
use Rattle.fancy_regex_meta.specs.declared.strategy.Strategy.TheVariants.{Easy, Linear, Program, Regular}

pub keeps_nothing : (strategy : Strategy) (text : List ℕ) (parts : RegularMemory) → parts.kept ≡ None → StrategyKeeps strategy text parts
keeps_nothing (Easy easy) text parts none = tt
keeps_nothing (Linear linear prog) text parts none = tt
keeps_nothing (Program prog run) text parts none = tt
keeps_nothing (Regular regular prog run relaxed) text parts none =
    subst (λ (o : Option Kept). IfSome o (IsTrueFor regular text parts.parts) × IfSome o (IsWalkedFor regular text parts.walked)) (sym none) (tt, tt)
