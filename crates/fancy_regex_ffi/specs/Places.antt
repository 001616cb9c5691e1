-- The place of a fault in the pattern.
use Rattle.std.specs.Prelude.{ℕ, Option, Some, None}
use Rattle.fancy_regex_ffi.specs.declared.fault.CallError.{CallError}
use Rattle.fancy_regex_ffi.specs.declared.fault.CallError.TheVariants as faults
use Rattle.fancy_regex_meta.specs.declared.error.Error.TheVariants.{ParseError}

-- the byte of the pattern at which its first error stands; other faults have no place
abbrev pub place_of : CallError → Option ℕ
place_of (faults.Regex (ParseError position _)) = Some position
place_of _ = None
