-- The fault for each refusal or error of the libraries.
use Rattle.fancy_regex.specs.Error.{Error}
use Rattle.fancy_regex.specs.Error.TheVariants as errors
use Rattle.fancy_search_words.specs.declared.refusal.Refusal.{Refusal}
use Rattle.fancy_search_words.specs.declared.refusal.Refusal.TheVariants as refusals
use Rattle.fancy_search_run.specs.declared.fault.Fault.{Fault}
use Rattle.fancy_search_run.specs.declared.fault.Fault.TheVariants as faults

abbrev pub fault_of_refusal : Refusal → Fault
fault_of_refusal (refusals.Words text) = faults.Words text
fault_of_refusal (refusals.Help text) = faults.Help text
fault_of_refusal refusals.Memory = faults.Memory

abbrev pub fault_of_error : Error → Fault
fault_of_error errors.Memory = faults.Memory
fault_of_error (errors.ParseError position kind) = faults.Regex (errors.ParseError position kind)
fault_of_error (errors.CompileError cause) = faults.Regex (errors.CompileError cause)
fault_of_error (errors.RuntimeError cause) = faults.Regex (errors.RuntimeError cause)
