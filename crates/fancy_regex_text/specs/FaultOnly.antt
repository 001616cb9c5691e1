-- Errors of functions that allocate nothing.
use Rattle.fancy_regex_text.specs.declared.fault.ReadError.{ReadError}
use Rattle.fancy_regex_text.specs.declared.fault.ReadError.TheVariants.{ParseFault, Memory}

-- the error is a parse error, not want of memory
abbrev pub IsFault : ReadError → Type 0
IsFault (ParseFault f) = Unit {0}
IsFault Memory = ⊥
