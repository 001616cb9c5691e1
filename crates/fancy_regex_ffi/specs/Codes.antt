-- The numbers that calls return to C.
use Rattle.std.specs.Prelude.{ℤ, pos, negsuc}
use Rattle.fancy_regex_ffi.specs.declared.status.Status.{Status}
use Rattle.fancy_regex_ffi.specs.declared.status.Status.TheVariants as statuses
use Rattle.fancy_regex_ffi.specs.declared.fault.CallError.{CallError}
use Rattle.fancy_regex_ffi.specs.declared.fault.CallError.TheVariants as faults
use Rattle.fancy_regex_meta.specs.declared.error.Error.TheVariants.{ParseError, CompileError, RuntimeError, Memory}

-- the number of a status: 1 for an answer, 0 for none, and below 0 for each fault
abbrev pub code_of : Status → ℤ
code_of statuses.NoMatch = pos 0
code_of statuses.Done = pos 1
code_of statuses.EmptyHandle = negsuc 0
code_of statuses.NoRegex = negsuc 1
code_of statuses.NotUtf8 = negsuc 2
code_of statuses.PastEnd = negsuc 3
code_of statuses.OffBoundary = negsuc 4
code_of statuses.NoPattern = negsuc 5
code_of statuses.Refused = negsuc 6
code_of statuses.Limit = negsuc 7
code_of statuses.Memory = negsuc 8
code_of statuses.NoSet = negsuc 11
code_of statuses.WrongEnds = negsuc 12

-- the status of a fault
abbrev pub fault_status : CallError → Status
fault_status faults.NoRegex = statuses.NoRegex
fault_status faults.NoSet = statuses.NoSet
fault_status faults.WrongEnds = statuses.WrongEnds
fault_status faults.NotUtf8 = statuses.NotUtf8
fault_status faults.PastEnd = statuses.PastEnd
fault_status faults.OffBoundary = statuses.OffBoundary
fault_status (faults.Regex (ParseError _ _)) = statuses.NoPattern
fault_status (faults.Regex (CompileError _)) = statuses.Refused
fault_status (faults.Regex (RuntimeError _)) = statuses.Limit
fault_status (faults.Regex Memory) = statuses.Memory
