-- Templates and names: what their calls answer.
use Rattle.std.specs.Prelude.{◌≡◌, ℕ, ℤ, Bool, true, false, List, length, Option, Some, None, Result, Ok, Err, chars, IsUtf8}
use Rattle.fancy_regex_template.specs.Faults.{TemplateFault, first_fault}
use Rattle.fancy_regex_template.specs.Parts.{parts}
use Rattle.fancy_regex_template.specs.PatternEscape.{escaped_pattern}
use Rattle.fancy_regex_template.specs.declared.syntax.TemplateSyntax.{TemplateSyntax}
use Rattle.fancy_regex_template.specs.declared.syntax.TemplateSyntax.TheVariants.{Dollar, Python}
use Rattle.fancy_regex_meta.specs.MetaMatches.{meta_pattern}
use Rattle.fancy_regex_meta.specs.declared.meta_regex.MetaRegex.{MetaRegex}
use Rattle.fancy_regex_meta.specs.declared.error.Error.TheVariants.{Memory}
use Rattle.fancy_regex_search.specs.GroupLookup.{meta_group_names}
use Rattle.fancy_regex_search.specs.TemplateChecks.{groups_of, IsErrorOfFault}
use Rattle.fancy_regex_search.specs.declared.regex.Regex.{Regex}
use Rattle.fancy_regex_ffi_lists.specs.Names.{name_lines}
use Rattle.fancy_regex_ffi.specs.Codes.{code_of, fault_status}
use Rattle.fancy_regex_ffi.specs.Ends.{FaultAfter}
use Rattle.fancy_regex_ffi.specs.Lists.{IsListWritten, ListReports, OfRegex}
use Rattle.fancy_regex_ffi.specs.declared.fault.CallError.{CallError}
use Rattle.fancy_regex_ffi.specs.declared.fault.CallError.TheVariants as faults
use Rattle.fancy_regex_ffi.specs.declared.contents.Contents.{Contents}
use Rattle.fancy_regex_ffi.specs.declared.contents.Subject.{Subject}
use Rattle.fancy_regex_ffi.specs.declared.status.Status.TheVariants as statuses

-- the names of the groups of a regex, line by line, or want of memory
abbrev pub AreNamesOf : Regex → Result (List ℕ) CallError → Type 0
AreNamesOf regex (Ok text) = text ≡ name_lines (meta_group_names regex.meta) (length (meta_pattern regex.meta).groups) 0
AreNamesOf regex (Err fault) = fault ≡ faults.Regex Memory

-- the same for what was built
abbrev pub AreNames : Subject → Result (List ℕ) CallError → Type 0
AreNames = OfRegex AreNamesOf

-- what the call for the names of a handle reports
abbrev pub NamesReport : Option Contents → Option Contents → ℤ → List ℕ → List ℕ → ℕ → Type 0
NamesReport = ListReports AreNames

-- how the references of a template are written
abbrev pub syntax_for : Bool → TemplateSyntax
syntax_for true = Python
syntax_for false = Dollar

-- the first fault of a template from the left, for the groups of a regex
abbrev pub fault_in : Bool → MetaRegex → List ℕ → Option TemplateFault
fault_in is_python meta template = first_fault (groups_of meta) (parts (syntax_for is_python) (chars template))

-- why a template is not accepted: its first fault, or want of memory, or that it is not UTF-8
abbrev pub IsCheckFault : List ℕ → Bool → Regex → CallError → Type 0
IsCheckFault template is_python regex (faults.Regex Memory) = IsUtf8 template
IsCheckFault template is_python regex (faults.Regex e) =
    IsUtf8 template × ((found : TemplateFault) × (fault_in is_python regex.meta template ≡ Some found) × IsErrorOfFault found e)
IsCheckFault template is_python regex faults.NotUtf8 = IsUtf8 template → ⊥
IsCheckFault template is_python regex _ = ⊥

-- the template has no fault, or it is told
abbrev pub IsCheckedFor : List ℕ → Bool → Regex → Result (Unit {0}) CallError → Type 0
IsCheckedFor template is_python regex (Ok _) = IsUtf8 template × (fault_in is_python regex.meta template ≡ None)
IsCheckedFor template is_python regex (Err fault) = IsCheckFault template is_python regex fault

-- the same for what was built
abbrev pub IsChecked : List ℕ → Bool → Subject → Result (Unit {0}) CallError → Type 0
IsChecked template is_python = OfRegex (IsCheckedFor template is_python)

-- the number of a call that does what was asked, or has a fault
abbrev pub done_code : Result (Unit {0}) CallError → ℤ
done_code (Ok _) = code_of statuses.Done
done_code (Err fault) = code_of (fault_status fault)

-- what the check of a template for a handle reports
abbrev pub CheckReports : Option Contents → Option Contents → List ℕ → Bool → ℤ → Type 0
CheckReports (Some contents) left template is_python code = (after : Contents) × (answer : Result (Unit {0}) CallError) × (left ≡ Some after) × (after.subject ≡ contents.subject)
    × IsChecked template is_python contents.subject answer × (code ≡ done_code answer) × FaultAfter answer contents.fault after.fault
CheckReports None left template is_python code = (code ≡ code_of statuses.EmptyHandle) × (left ≡ None)

-- the pattern that matches exactly the text, or why there is none: want of memory, or that the text is not UTF-8
abbrev pub IsEscaped : List ℕ → Result (List ℕ) CallError → Type 0
IsEscaped text (Ok pattern) = IsUtf8 text × (chars pattern ≡ escaped_pattern (chars text))
IsEscaped text (Err (faults.Regex Memory)) = IsUtf8 text
IsEscaped text (Err faults.NotUtf8) = IsUtf8 text → ⊥
IsEscaped text (Err _) = ⊥

-- what the call that makes a pattern of a text reports
abbrev pub EscapeEnds : List ℕ → ℤ → List ℕ → List ℕ → ℕ → Type 0
EscapeEnds text code old new count = (answer : Result (List ℕ) CallError) × IsEscaped text answer × IsListWritten answer code old new count
