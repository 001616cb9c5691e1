-- What a call reports that writes a list.
use Rattle.std.specs.Prelude.{◌≡◌, ℕ, ℤ, Bool, List, Option, Some, Result}
use mathlib.Core.Path.{sym, subst}
use Rattle.fancy_regex_ffi_lists.specs.declared.member.Member.{Member}
use Rattle.fancy_regex_ffi_lists.specs.declared.spans.Span.{Span}
use Rattle.fancy_regex_ffi.specs.Ends.{FaultAfter}
use Rattle.fancy_regex_ffi.specs.Lists.{OfRegex, AreMatchSpans, ArePieceSpans, IsReplacedText, AreMembers, AreMemberGroups, IsListWritten, ListReports}
use Rattle.fancy_regex_ffi.specs.Templates.{AreNames, NamesReport, IsChecked, CheckReports, done_code}
use Rattle.fancy_regex_ffi.specs.declared.fault.CallError.{CallError}
use Rattle.fancy_regex_ffi.specs.declared.contents.Contents.{Contents}
use Rattle.fancy_regex_ffi.specs.declared.contents.Subject.{Subject}
use Rattle.fancy_regex_ffi.specs.declared.query.Query.{Query}

-- what a call reports on a handle that holds something
list_reports : {X : Type 0} (Gives : Subject → Result (List X) CallError → Type 0) (old left : Option Contents) (contents after : Contents) (answer : Result (List X) CallError) (code : ℤ) (out written : List X) (count : ℕ)
    → old ≡ Some contents → left ≡ Some after → Gives contents.subject answer → IsListWritten answer code out written count → after.subject ≡ contents.subject → FaultAfter answer contents.fault after.fault
    → ListReports Gives old left code out written count
list_reports Gives old left contents after answer code out written count before following gives told same recorded =
    subst (λ (o : Option Contents). ListReports Gives o left code out written count) (sym before) (after, answer, following, same, gives, told, recorded)

pub spans_report : (text : List ℕ) (old left : Option Contents) (contents after : Contents) (answer : Result (List Span) CallError) (code : ℤ) (out written : List Span) (count : ℕ)
    → old ≡ Some contents → left ≡ Some after → OfRegex (AreMatchSpans text) contents.subject answer → IsListWritten answer code out written count → after.subject ≡ contents.subject
    → FaultAfter answer contents.fault after.fault → ListReports (OfRegex (AreMatchSpans text)) old left code out written count
spans_report text = list_reports (OfRegex (AreMatchSpans text))

pub pieces_report : (text : List ℕ) (old left : Option Contents) (contents after : Contents) (answer : Result (List Span) CallError) (code : ℤ) (out written : List Span) (count : ℕ)
    → old ≡ Some contents → left ≡ Some after → OfRegex (ArePieceSpans text) contents.subject answer → IsListWritten answer code out written count → after.subject ≡ contents.subject
    → FaultAfter answer contents.fault after.fault → ListReports (OfRegex (ArePieceSpans text)) old left code out written count
pieces_report text = list_reports (OfRegex (ArePieceSpans text))

pub replaced_report : (text template : List ℕ) (old left : Option Contents) (contents after : Contents) (answer : Result (List ℕ) CallError) (code : ℤ) (out written : List ℕ) (count : ℕ)
    → old ≡ Some contents → left ≡ Some after → OfRegex (IsReplacedText text template) contents.subject answer → IsListWritten answer code out written count → after.subject ≡ contents.subject
    → FaultAfter answer contents.fault after.fault → ListReports (OfRegex (IsReplacedText text template)) old left code out written count
replaced_report text template = list_reports (OfRegex (IsReplacedText text template))

pub members_report : (text : List ℕ) (query : Query) (old left : Option Contents) (contents after : Contents) (answer : Result (List Member) CallError) (code : ℤ) (out written : List Member) (count : ℕ)
    → old ≡ Some contents → left ≡ Some after → AreMembers text query contents.subject answer → IsListWritten answer code out written count → after.subject ≡ contents.subject
    → FaultAfter answer contents.fault after.fault → ListReports (AreMembers text query) old left code out written count
members_report text query = list_reports (AreMembers text query)

pub member_groups_report : (text : List ℕ) (query : Query) (old left : Option Contents) (contents after : Contents) (answer : Result (List Member) CallError) (code : ℤ) (out written : List Member) (count : ℕ)
    → old ≡ Some contents → left ≡ Some after → AreMemberGroups text query contents.subject answer → IsListWritten answer code out written count → after.subject ≡ contents.subject
    → FaultAfter answer contents.fault after.fault → ListReports (AreMemberGroups text query) old left code out written count
member_groups_report text query = list_reports (AreMemberGroups text query)

pub names_report : (old left : Option Contents) (contents after : Contents) (answer : Result (List ℕ) CallError) (code : ℤ) (out written : List ℕ) (count : ℕ)
    → old ≡ Some contents → left ≡ Some after → AreNames contents.subject answer → IsListWritten answer code out written count → after.subject ≡ contents.subject
    → FaultAfter answer contents.fault after.fault → NamesReport old left code out written count
names_report = list_reports AreNames

-- what the check of a template reports
pub check_reports : (template : List ℕ) (is_python : Bool) (old left : Option Contents) (contents after : Contents) (answer : Result (Unit {0}) CallError) (code : ℤ) → old ≡ Some contents → left ≡ Some after
    → IsChecked template is_python contents.subject answer → code ≡ done_code answer → after.subject ≡ contents.subject → FaultAfter answer contents.fault after.fault
    → CheckReports old left template is_python code
check_reports template is_python old left contents after answer code before following gives told same recorded =
    subst (λ (o : Option Contents). CheckReports o left template is_python code) (sym before) (after, answer, following, same, gives, told, recorded)
