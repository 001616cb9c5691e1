-- The text of each fault.
use Rattle.std.specs.Prelude.{ℕ, List, Option, Some, codes, string_bytes}
use Rattle.fancy_regex.specs.Error.{Error}
use Rattle.fancy_search_run.specs.declared.fault.Fault.{Fault}
use Rattle.fancy_search_run.specs.declared.fault.Fault.TheVariants as faults

-- the text of a fault, where `regex_text` gives that of an error of the library
abbrev pub fault_text : (Error → Option (List ℕ)) → Fault → Option (List ℕ)
fault_text regex_text (faults.Words text) = Some (string_bytes text)
fault_text regex_text (faults.Help text) = Some (string_bytes text)
fault_text regex_text (faults.Regex error) = regex_text error
fault_text regex_text faults.NotReprinted = Some (codes "pattern does not reprint")
fault_text regex_text faults.Input = Some (codes "cannot read input")
fault_text regex_text faults.NotUtf8 = Some (codes "input is not UTF-8")
fault_text regex_text faults.Output = Some (codes "cannot write output")
fault_text regex_text faults.Memory = Some (codes "Out of memory")
