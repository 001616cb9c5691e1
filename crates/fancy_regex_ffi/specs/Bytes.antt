-- How a question about the bytes of a pattern ends.
use Rattle.std.specs.Prelude.{◌≡◌, ℕ, ℤ, Bool, true, false, List, Option, Some, None, Result, Ok, Err, IsUtf8}
use Rattle.fancy_regex_meta.specs.declared.options.RegexOptions.{RegexOptions}
use Rattle.fancy_regex_meta.specs.Reading.{IsReadingError}
use Rattle.fancy_regex.specs.ByteSetLaws.{IsStartBytesError}
use Rattle.fancy_regex_ffi_lists.specs.Tables.{AreStartsMarked, AreRequiredMarked}
use Rattle.fancy_regex_ffi.specs.Codes.{code_of, fault_status}
use Rattle.fancy_regex_ffi.specs.declared.fault.CallError.{CallError}
use Rattle.fancy_regex_ffi.specs.declared.fault.CallError.TheVariants as faults
use Rattle.fancy_regex_ffi.specs.declared.contents.Contents.{Contents}
use Rattle.fancy_regex_ffi.specs.declared.contents.Subject.TheVariants as subjects
use Rattle.fancy_regex_ffi.specs.declared.status.Status.TheVariants as statuses

-- The bytes that the definitions give for the starts of the matches are marked, or they give none; or the pattern is refused, and the
-- table is as it was.
abbrev pub AreStartsOrFault : RegexOptions → List ℕ → Result Bool CallError → List Bool → List Bool → Type 0
AreStartsOrFault o pattern (Ok known) old new = IsUtf8 pattern × AreStartsMarked o pattern known old new
AreStartsOrFault o pattern (Err (faults.Regex e)) old new = IsUtf8 pattern × IsStartBytesError o pattern e × (new ≡ old)
AreStartsOrFault o pattern (Err faults.NotUtf8) old new = (IsUtf8 pattern → ⊥) × (new ≡ old)
AreStartsOrFault o pattern (Err _) old new = ⊥

-- the same for the bytes that each text with a match has
abbrev pub AreRequiredOrFault : RegexOptions → List ℕ → Result Bool CallError → List Bool → List Bool → Type 0
AreRequiredOrFault o pattern (Ok true) old new = IsUtf8 pattern × AreRequiredMarked o pattern old new
AreRequiredOrFault o pattern (Ok false) old new = ⊥
AreRequiredOrFault o pattern (Err (faults.Regex e)) old new = IsUtf8 pattern × IsReadingError o pattern e × (new ≡ old)
AreRequiredOrFault o pattern (Err faults.NotUtf8) old new = (IsUtf8 pattern → ⊥) × (new ≡ old)
AreRequiredOrFault o pattern (Err _) old new = ⊥

-- the fault is stored alone, and its number is told; or memory ran out for it
abbrev pub IsFaultStored : CallError → Option Contents → ℤ → Type 0
IsFaultStored fault (Some contents) code = (contents.subject ≡ subjects.Nothing) × (contents.fault ≡ Some fault) × (code ≡ code_of (fault_status fault))
IsFaultStored fault None code = code ≡ code_of statuses.Memory

-- how the call ends, and what the handle holds afterwards: nothing but a fault
abbrev pub IsAskedEnd : Result Bool CallError → Option Contents → ℤ → Type 0
IsAskedEnd (Ok true) left code = (code ≡ code_of statuses.Done) × (left ≡ None)
IsAskedEnd (Ok false) left code = (code ≡ code_of statuses.NoMatch) × (left ≡ None)
IsAskedEnd (Err fault) left code = IsFaultStored fault left code

-- what a question about the starts reports
abbrev pub StartBytesEnd : RegexOptions → List ℕ → Option Contents → ℤ → List Bool → List Bool → Type 0
StartBytesEnd o pattern left code old new = (answer : Result Bool CallError) × AreStartsOrFault o pattern answer old new × IsAskedEnd answer left code

-- what a question about the bytes that each text with a match has reports
abbrev pub RequiredBytesEnd : RegexOptions → List ℕ → Option Contents → ℤ → List Bool → List Bool → Type 0
RequiredBytesEnd o pattern left code old new = (answer : Result Bool CallError) × AreRequiredOrFault o pattern answer old new × IsAskedEnd answer left code
