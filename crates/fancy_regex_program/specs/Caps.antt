-- The cap of a program.
use Rattle.std.specs.Prelude.{ℕ, ◌<◌, ◌≤◌, Option, Some, None, if◌then◌else◌}
use Rattle.fancy_regex_analysis.specs.AnalysisErrors.{is_too_complex}
use Rattle.fancy_regex_info.specs.declared.error.CompileError.{CompileError}
use Rattle.fancy_regex_info.specs.declared.error.CompileError.TheVariants.{Memory}
use Rattle.fancy_regex_program.specs.Machine.{unset}

-- how many instructions a program may have
abbrev pub cap_of : Option ℕ → ℕ
cap_of None = unset
cap_of (Some n) = n

-- a program of that many instructions is within the cap, if one is set
abbrev pub IsWithinCap : Option ℕ → ℕ → Type 0
IsWithinCap None size = Unit {0}
IsWithinCap (Some most) size = size ≤ most

-- a cap is set, and it is below that many instructions
abbrev pub IsPastCap : Option ℕ → ℕ → Type 0
IsPastCap None size = ⊥
IsPastCap (Some most) size = most < size

-- the error of a program that is too long: without a cap only memory bounds its length
abbrev pub capped_error : Option ℕ → CompileError → CompileError
capped_error None e = if is_too_complex e then Memory else e
capped_error (Some most) e = e
