-- The texts of faults, and what stands in the bytes that C gives for one.
use Rattle.std.specs.Prelude.{◌≡◌, ℕ, List, length, Option, Some, None, codes}
use Rattle.fancy_regex_meta.specs.declared.error.Error.{Error}
use Rattle.fancy_regex_ffi_lists.specs.Fronts.{IsFrontOf, IsErrorWritten}
use Rattle.fancy_regex_ffi.specs.declared.fault.CallError.{CallError}
use Rattle.fancy_regex_ffi.specs.declared.fault.CallError.TheVariants as faults
use Rattle.fancy_regex_ffi.specs.declared.contents.Contents.{Contents}

-- the number is the length of the text, and the bytes begin with it; after it they are as they were
abbrev pub IsTextCopied : List ℕ → List ℕ → List ℕ → ℕ → Type 0
IsTextCopied text old new count = (count ≡ length text) × IsFrontOf text old new

-- the text of a fault is told, where `shown` gives that of an error of the library
abbrev pub IsFaultWritten : (Error → Option (List ℕ)) → CallError → List ℕ → List ℕ → ℕ → Type 0
IsFaultWritten shown faults.NoRegex = IsTextCopied (codes "the handle holds no regex")
IsFaultWritten shown faults.NoSet = IsTextCopied (codes "the handle holds no set")
IsFaultWritten shown faults.WrongEnds = IsTextCopied (codes "the ends of the patterns fall, or lie past their bytes")
IsFaultWritten shown faults.NotUtf8 = IsTextCopied (codes "the text is not UTF-8")
IsFaultWritten shown faults.PastEnd = IsTextCopied (codes "the search begins past the end of the text")
IsFaultWritten shown faults.OffBoundary = IsTextCopied (codes "the search begins inside a character")
IsFaultWritten shown (faults.Regex error) = IsErrorWritten (shown error)

-- the same for the fault that is recorded; without one nothing is told
abbrev pub IsTextWritten : (Error → Option (List ℕ)) → Option CallError → List ℕ → List ℕ → ℕ → Type 0
IsTextWritten shown (Some fault) old new count = IsFaultWritten shown fault old new count
IsTextWritten shown None old new count = (count ≡ 0) × (new ≡ old)

-- the same for what a handle holds; an empty one has no fault
abbrev pub TextReports : (Error → Option (List ℕ)) → Option Contents → List ℕ → List ℕ → ℕ → Type 0
TextReports shown (Some contents) old new count = IsTextWritten shown contents.fault old new count
TextReports shown None old new count = (count ≡ 0) × (new ≡ old)
