-- What is told of a fault: help on the output, every other fault on the errors.
use Rattle.std.specs.Prelude.{ℕ, Bool, true, false, List, Option, Some, codes}
use Rattle.std.specs.Fmt.{option_append, with_newline}
use Rattle.fancy_search_run.specs.declared.fault.Fault.{Fault}
use Rattle.fancy_search_run.specs.declared.fault.Fault.TheVariants as faults

-- the fault is that the words request help
abbrev pub is_help : Fault → Bool
is_help (faults.Help text) = true
is_help _ = false

-- the line that tells a fault on the errors, where its text is known
abbrev pub fault_line : Option (List ℕ) → Option (List ℕ)
fault_line text = with_newline (option_append (Some (codes "fancy_search: ")) text)
