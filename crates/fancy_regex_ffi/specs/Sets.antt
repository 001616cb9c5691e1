-- What a set is built of.
use Rattle.std.specs.Prelude.{◌≡◌, ◌≢◌, ⊤, ℕ, ◌≤◌, ℤ, List, [], ◌∷◌, length, Option, Some, None, Result, Ok, Err, slice_range, IsUtf8}
use Rattle.std.specs.Borrow.{Bor}
use Rattle.fancy_regex_meaning.specs.WayLaws.{Each}
use Rattle.fancy_regex_meta.specs.declared.options.RegexOptions.{RegexOptions}
use Rattle.fancy_regex_meta.specs.declared.error.Error.TheVariants.{Memory}
use Rattle.fancy_regex.specs.SetMembers.{AreBuiltOf, RefusesPatterns}
use Rattle.fancy_regex.specs.declared.set.RegexSet.{RegexSet}
use Rattle.fancy_regex_ffi_lists.specs.Mixed.{AreBuiltEach, RefusesEach}
use Rattle.fancy_regex_ffi_lists.specs.declared.options.Options.{Options}
use Rattle.fancy_regex_ffi.specs.Codes.{code_of, fault_status}
use Rattle.fancy_regex_ffi.specs.declared.fault.CallError.{CallError}
use Rattle.fancy_regex_ffi.specs.declared.fault.CallError.TheVariants as faults
use Rattle.fancy_regex_ffi.specs.declared.contents.Contents.{Contents}
use Rattle.fancy_regex_ffi.specs.declared.contents.Subject.{Subject}
use Rattle.fancy_regex_ffi.specs.declared.contents.Subject.TheVariants as subjects
use Rattle.fancy_regex_ffi.specs.declared.status.Status.{Status}
use Rattle.fancy_regex_ffi.specs.declared.status.Status.TheVariants as statuses

-- the patterns that stand one after another, from an offset on, by where each of them ends
abbrev pub cut_at : List ℕ → ℕ → List ℕ → List (List ℕ)
cut_at bytes from [] = []
cut_at bytes from (end ∷ ends) = slice_range bytes from end ∷ cut_at bytes end ends

-- the ends do not fall, and lie within the bytes
abbrev pub Rise : List ℕ → ℕ → List ℕ → Type 0
Rise bytes from [] = ⊤
Rise bytes from (end ∷ ends) = (from ≤ end) × (end ≤ length bytes) × Rise bytes end ends

-- From an offset on, texts in UTF-8 stand one after another, and end there.
pub record AreTexts (bytes : List ℕ) (from : ℕ) (ends : List ℕ) : Type 0 where
  pub rise : Rise bytes from ends
  pub utf8 : Each IsUtf8 (cut_at bytes from ends)

-- the piece between two offsets, or the fault that says why it is none
abbrev pub IsPieceOrFault : List ℕ → ℕ → ℕ → Result (Bor (List ℕ)) CallError → Type 0
IsPieceOrFault bytes from end (Ok text) = (from ≤ end) × (end ≤ length bytes) × (text.now ≡ slice_range bytes from end) × IsUtf8 (slice_range bytes from end)
IsPieceOrFault bytes from end (Err faults.WrongEnds) = (from ≤ end) × (end ≤ length bytes) → ⊥
IsPieceOrFault bytes from end (Err faults.NotUtf8) = IsUtf8 (slice_range bytes from end) → ⊥
IsPieceOrFault bytes from end (Err _) = ⊥

-- why the patterns are no texts: their ends are wrong, or one is not UTF-8; or want of memory
abbrev pub IsPieceFault : List ℕ → List ℕ → CallError → Type 0
IsPieceFault bytes ends (faults.Regex e) = e ≡ Memory
IsPieceFault bytes ends faults.NotUtf8 = Each IsUtf8 (cut_at bytes 0 ends) → ⊥
IsPieceFault bytes ends faults.WrongEnds = Rise bytes 0 ends → ⊥
IsPieceFault bytes ends _ = ⊥

-- why a set is not built of these patterns
abbrev pub IsSetRefused : RegexOptions → List ℕ → List ℕ → CallError → Type 0
IsSetRefused options bytes ends (faults.Regex e) = (e ≢ Memory → AreTexts bytes 0 ends) × RefusesPatterns options (cut_at bytes 0 ends) e
IsSetRefused options bytes ends faults.NotUtf8 = Each IsUtf8 (cut_at bytes 0 ends) → ⊥
IsSetRefused options bytes ends faults.WrongEnds = Rise bytes 0 ends → ⊥
IsSetRefused options bytes ends _ = ⊥

-- a set is stored with no fault, or nothing with the fault; and how that ends
abbrev pub IsSetStored : Result RegexSet CallError → Contents → Status → Type 0
IsSetStored (Ok set) contents status = (contents.subject ≡ subjects.Set set) × (contents.fault ≡ None) × (status ≡ statuses.Done)
IsSetStored (Err fault) contents status = (contents.subject ≡ subjects.Nothing) × (contents.fault ≡ Some fault) × (status ≡ fault_status fault)

-- what is built of these patterns, and how the call ends
abbrev pub IsSetBuilt : RegexOptions → List ℕ → List ℕ → Subject → Option CallError → Status → Type 0
IsSetBuilt options bytes ends (subjects.Set set) fault status =
    (status ≡ statuses.Done) × (fault ≡ None) × AreTexts bytes 0 ends × AreBuiltOf options (cut_at bytes 0 ends) set.regexes.items
IsSetBuilt options bytes ends subjects.Nothing (Some fault) status = (status ≡ fault_status fault) × IsSetRefused options bytes ends fault
IsSetBuilt options bytes ends subjects.Nothing None status = ⊥
IsSetBuilt options bytes ends (subjects.Regex regex) fault status = ⊥

-- what stands in the handle after a set is built, and the number
abbrev pub SetBuildEnds : RegexOptions → List ℕ → List ℕ → Option Contents → ℤ → Type 0
SetBuildEnds options bytes ends (Some contents) code = (status : Status) × (code ≡ code_of status) × IsSetBuilt options bytes ends contents.subject contents.fault status
SetBuildEnds options bytes ends None code = code ≡ code_of statuses.Memory

-- The same where each pattern has options of its own.
abbrev pub IsMixedRefused : List Options → List ℕ → List ℕ → CallError → Type 0
IsMixedRefused options bytes ends (faults.Regex e) = (e ≢ Memory → AreTexts bytes 0 ends) × RefusesEach options (cut_at bytes 0 ends) e
IsMixedRefused options bytes ends faults.NotUtf8 = Each IsUtf8 (cut_at bytes 0 ends) → ⊥
IsMixedRefused options bytes ends faults.WrongEnds = Rise bytes 0 ends → ⊥
IsMixedRefused options bytes ends _ = ⊥

abbrev pub IsMixedBuilt : List Options → List ℕ → List ℕ → Subject → Option CallError → Status → Type 0
IsMixedBuilt options bytes ends (subjects.Set set) fault status =
    (status ≡ statuses.Done) × (fault ≡ None) × AreTexts bytes 0 ends × AreBuiltEach options (cut_at bytes 0 ends) set.regexes.items
IsMixedBuilt options bytes ends subjects.Nothing (Some fault) status = (status ≡ fault_status fault) × IsMixedRefused options bytes ends fault
IsMixedBuilt options bytes ends subjects.Nothing None status = ⊥
IsMixedBuilt options bytes ends (subjects.Regex regex) fault status = ⊥

abbrev pub MixedBuildEnds : List Options → List ℕ → List ℕ → Option Contents → ℤ → Type 0
MixedBuildEnds options bytes ends (Some contents) code = (status : Status) × (code ≡ code_of status) × IsMixedBuilt options bytes ends contents.subject contents.fault status
MixedBuildEnds options bytes ends None code = code ≡ code_of statuses.Memory
