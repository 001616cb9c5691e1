-- That a memory is of a pattern and a text is so in one way.
use Rattle.std.specs.Prelude.{ℕ, List, Option, Some, None, IfSome}
use Rattle.std.specs.Coded.{Unit-prop, le_prop, Coded-set, coded_ℕ, coded_list, coded_option, ×_prop}
use Rattle.fancy_regex_parts.specs.declared.groups.WalkMemory.{WalkMemory}
use Rattle.fancy_regex_parts.specs.declared.memory.PartMemory.{PartMemory}
use Rattle.fancy_regex_regular.specs.Kept.{IsTrueFor, IsWalkedFor, IsKeptOf}
use Rattle.fancy_regex_regular.specs.declared.memory.Kept.{Kept}
use Rattle.fancy_regex_regular.specs.declared.memory.RegularMemory.{RegularMemory}
use Rattle.fancy_regex_regular.specs.declared.regular.Regular.{Regular}

true_prop : (regular : Regular) (text : List ℕ) (parts : PartMemory) (kept : Kept) → IsProp (IsTrueFor regular text parts kept)
true_prop regular text parts kept = hlevel (le_prop, Coded-set coded_ℕ, Coded-set (coded_option coded_ℕ))

kept_in : (regular : Regular) (text : List ℕ) (parts : PartMemory) (o : Option Kept) → IsProp (IfSome o (IsTrueFor regular text parts))
kept_in regular text parts None = Unit-prop
kept_in regular text parts (Some kept) = true_prop regular text parts kept

walked_prop : (regular : Regular) (text : List ℕ) (walked : WalkMemory) (kept : Kept) → IsProp (IsWalkedFor regular text walked kept)
walked_prop regular text walked kept = hlevel (le_prop, Coded-set coded_ℕ, Coded-set (coded_list coded_ℕ))

walked_in : (regular : Regular) (text : List ℕ) (walked : WalkMemory) (o : Option Kept) → IsProp (IfSome o (IsWalkedFor regular text walked))
walked_in regular text walked None = Unit-prop
walked_in regular text walked (Some kept) = walked_prop regular text walked kept

pub kept_prop : (regular : Regular) (text : List ℕ) (memory : RegularMemory) → IsProp (IsKeptOf regular text memory)
kept_prop regular text memory = ×_prop (kept_in regular text memory.parts memory.kept) (walked_in regular text memory.walked memory.kept)
