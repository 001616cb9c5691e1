-- Sets: their patterns one after another, and how they are built.
use Rattle.std.specs.Prelude.{◌≡◌, ℕ, ◌<◌, ◌≤◌, ℤ, List, [], ◌∷◌, ◌++◌, length, map, drop, Option, Some, None, Result, Ok, Err, IfOk, IfErr, slice_range, slice_index, IsUtf8}
use Rattle.std.proofs.Common.{arith, suc, zero, append-nil, ◌∙◌}
use Rattle.std.proofs.lemmas.List.{length-map}
use mathlib.Core.Path.{refl, sym, ap, subst}
use Rattle.fancy_regex_meaning.specs.WayLaws.{Each}
use Rattle.fancy_regex_meta.specs.declared.options.RegexOptions.{RegexOptions}
use Rattle.fancy_regex_meta.specs.declared.error.Error.{Error}
use Rattle.fancy_regex_meta.specs.declared.error.Error.TheVariants.{Memory}
use Rattle.fancy_regex.specs.SetMembers.{AreBuiltOf}
use Rattle.fancy_regex.specs.declared.set.RegexSet.{RegexSet}
use Rattle.fancy_regex_ffi.specs.Codes.{code_of, fault_status}
use Rattle.fancy_regex_ffi.specs.Ends.{IsStored}
use Rattle.fancy_regex_ffi_lists.specs.Mixed.{AreBuiltEach}
use Rattle.fancy_regex_ffi_lists.specs.declared.options.Options.{Options}
use Rattle.fancy_regex_ffi.specs.Sets.{cut_at, Rise, AreTexts, IsPieceFault, IsPieceOrFault, IsSetBuilt, IsSetRefused, IsSetStored, SetBuildEnds, IsMixedBuilt, IsMixedRefused, MixedBuildEnds}
use Rattle.fancy_regex_ffi.specs.declared.fault.CallError.{CallError}
use Rattle.fancy_regex_ffi.specs.declared.fault.CallError.TheVariants as faults
use Rattle.fancy_regex_ffi.specs.declared.contents.Contents.{Contents}
use Rattle.fancy_regex_ffi.specs.declared.contents.Subject.{Subject}
use Rattle.fancy_regex_ffi.specs.declared.contents.Subject.TheVariants as subjects
use Rattle.fancy_regex_ffi.specs.declared.status.Status.{Status}
use Rattle.fancy_regex_ffi.specs.declared.status.Status.TheVariants as statuses

-- patterns that are no texts
pub piece_refuses : (options : RegexOptions) (bytes ends : List ℕ) (fault : CallError) → IsPieceFault bytes ends fault → IsSetRefused options bytes ends fault
piece_refuses options bytes ends (faults.Regex e) memory = subst (λ (x : Error). IsSetRefused options bytes ends (faults.Regex x)) (sym memory) (λ other. absurd (other refl), tt)
piece_refuses options bytes ends faults.NotUtf8 wrong = wrong
piece_refuses options bytes ends faults.WrongEnds wrong = wrong
piece_refuses options bytes ends faults.NoRegex wrong = wrong
piece_refuses options bytes ends faults.NoSet wrong = wrong
piece_refuses options bytes ends faults.PastEnd wrong = wrong
piece_refuses options bytes ends faults.OffBoundary wrong = wrong

pub piece_refuses_mixed : (options : List Options) (bytes ends : List ℕ) (fault : CallError) → IsPieceFault bytes ends fault → IsMixedRefused options bytes ends fault
piece_refuses_mixed options bytes ends (faults.Regex e) memory = subst (λ (x : Error). IsMixedRefused options bytes ends (faults.Regex x)) (sym memory) (λ other. absurd (other refl), tt)
piece_refuses_mixed options bytes ends faults.NotUtf8 wrong = wrong
piece_refuses_mixed options bytes ends faults.WrongEnds wrong = wrong
piece_refuses_mixed options bytes ends faults.NoRegex wrong = wrong
piece_refuses_mixed options bytes ends faults.NoSet wrong = wrong
piece_refuses_mixed options bytes ends faults.PastEnd wrong = wrong
piece_refuses_mixed options bytes ends faults.OffBoundary wrong = wrong

-- the patterns are as many as their ends
length-cut_at : (bytes ends : List ℕ) (from : ℕ) → length (cut_at bytes from ends) ≡ length ends
length-cut_at bytes [] from = refl
length-cut_at bytes (x ∷ xs) from = ap suc (length-cut_at bytes xs x)

-- there are as many options as texts
pub as_many : {A : Type 0} (text_of : A → List ℕ) (bytes ends : List ℕ) (options : List Options) (texts shown : List A) → length options ≡ length ends
    → map text_of texts ≡ cut_at bytes 0 ends → shown ≡ texts → length options ≡ length shown
as_many text_of bytes ends options texts shown so_many same is =
    so_many ∙ sym (length-cut_at bytes ends 0) ∙ ap length (sym same) ∙ length-map texts text_of ∙ ap length (sym is)

-- what a build of a set reports
set_holds : (options : RegexOptions) (bytes ends : List ℕ) (answer : Result RegexSet CallError) (contents : Contents) (status : Status) → IfOk answer (λ _. AreTexts bytes 0 ends)
    → IfOk answer (λ set. AreBuiltOf options (cut_at bytes 0 ends) set.regexes.items) → IfErr answer (IsSetRefused options bytes ends) → IsSetStored answer contents status
    → IsSetBuilt options bytes ends contents.subject contents.fault status
set_holds options bytes ends (Ok set) contents status texts members refused told =
    subst (λ (s : Subject). IsSetBuilt options bytes ends s contents.fault status) (sym told.0) (told.2, told.1, texts, members)
set_holds options bytes ends (Err fault) contents status texts members refused told =
    subst (λ (s : Subject). IsSetBuilt options bytes ends s contents.fault status) (sym told.0)
    (subst (λ (k : Option CallError). IsSetBuilt options bytes ends subjects.Nothing k status) (sym told.1) (told.2, refused))

pub set_build_reports : (options : RegexOptions) (bytes ends : List ℕ) (left : Option Contents) (answer : Result RegexSet CallError) (contents : Contents) (status : Status) (code : ℤ)
    → IfOk answer (λ _. AreTexts bytes 0 ends) → IfOk answer (λ set. AreBuiltOf options (cut_at bytes 0 ends) set.regexes.items) → IfErr answer (IsSetRefused options bytes ends)
    → IsSetStored answer contents status → IsStored contents status left code → SetBuildEnds options bytes ends left code
set_build_reports options bytes ends None answer contents status code texts members refused told ends_so = ends_so
set_build_reports options bytes ends (Some left) answer contents status code texts members refused told ends_so =
    (status, ends_so.1, subst (λ (h : Contents). IsSetBuilt options bytes ends h.subject h.fault status) (sym ends_so.0) (set_holds options bytes ends answer contents status texts members refused told))

mixed_holds : (options : List Options) (bytes ends : List ℕ) (answer : Result RegexSet CallError) (contents : Contents) (status : Status) → IfOk answer (λ _. AreTexts bytes 0 ends)
    → IfOk answer (λ set. AreBuiltEach options (cut_at bytes 0 ends) set.regexes.items) → IfErr answer (IsMixedRefused options bytes ends) → IsSetStored answer contents status
    → IsMixedBuilt options bytes ends contents.subject contents.fault status
mixed_holds options bytes ends (Ok set) contents status texts members refused told =
    subst (λ (s : Subject). IsMixedBuilt options bytes ends s contents.fault status) (sym told.0) (told.2, told.1, texts, members)
mixed_holds options bytes ends (Err fault) contents status texts members refused told =
    subst (λ (s : Subject). IsMixedBuilt options bytes ends s contents.fault status) (sym told.0)
    (subst (λ (k : Option CallError). IsMixedBuilt options bytes ends subjects.Nothing k status) (sym told.1) (told.2, refused))

pub mixed_build_reports : (options : List Options) (bytes ends : List ℕ) (left : Option Contents) (answer : Result RegexSet CallError) (contents : Contents) (status : Status) (code : ℤ)
    → IfOk answer (λ _. AreTexts bytes 0 ends) → IfOk answer (λ set. AreBuiltEach options (cut_at bytes 0 ends) set.regexes.items) → IfErr answer (IsMixedRefused options bytes ends)
    → IsSetStored answer contents status → IsStored contents status left code → MixedBuildEnds options bytes ends left code
mixed_build_reports options bytes ends None answer contents status code texts members refused told ends_so = ends_so
mixed_build_reports options bytes ends (Some left) answer contents status code texts members refused told ends_so =
    (status, ends_so.1, subst (λ (h : Contents). IsMixedBuilt options bytes ends h.subject h.fault status) (sym ends_so.0) (mixed_holds options bytes ends answer contents status texts members refused told))

-- the patterns from the one with some number on begin with that one
pub cut_next : (bytes ends : List ℕ) (from i end : ℕ) → i < length ends → end ≡ slice_index ends i
    → cut_at bytes from (drop i ends) ≡ slice_range bytes from end ∷ cut_at bytes end (drop (suc i) ends)
cut_next bytes [] from i end h e = absurd (omega (arith, h))
cut_next bytes (x ∷ xs) from zero end h e = ap (λ (n : ℕ). slice_range bytes from n ∷ cut_at bytes n xs) (sym e)
cut_next bytes (x ∷ xs) from (suc i) end h e = cut_next bytes xs from i end (omega (arith, h)) e

pub rise_next : (bytes ends : List ℕ) (from i end : ℕ) → i < length ends → end ≡ slice_index ends i → Rise bytes from (drop i ends)
    → (from ≤ end) × (end ≤ length bytes) × Rise bytes end (drop (suc i) ends)
rise_next bytes [] from i end h e r = absurd (omega (arith, h))
rise_next bytes (x ∷ xs) from zero end h e r = subst (λ (n : ℕ). (from ≤ n) × (n ≤ length bytes) × Rise bytes n xs) (sym e) r
rise_next bytes (x ∷ xs) from (suc i) end h e r = rise_next bytes xs from i end (omega (arith, h)) e r

-- the texts from the one with some number on are that one and those after it
pub texts_next : (bytes ends : List ℕ) (from i end : ℕ) → i < length ends → end ≡ slice_index ends i → from ≤ end → end ≤ length bytes → IsUtf8 (slice_range bytes from end)
    → AreTexts bytes end (drop (suc i) ends) → AreTexts bytes from (drop i ends)
texts_next bytes [] from i end h e low high utf8 are = absurd (omega (arith, h))
texts_next bytes (x ∷ xs) from zero end h e low high utf8 are = subst (λ (n : ℕ). AreTexts bytes from (n ∷ xs)) e (record { rise = (low, high, are.rise); utf8 = (utf8, are.utf8) })
texts_next bytes (x ∷ xs) from (suc i) end h e low high utf8 are = texts_next bytes xs from i end (omega (arith, h)) e low high utf8 are

-- a text more is listed
texts_snoc : {A : Type 0} (text_of : A → List ℕ) (texts : List A) (text : A) (rest : List (List ℕ)) → map text_of (texts ++ text ∷ []) ++ rest ≡ map text_of texts ++ (text_of text ∷ rest)
texts_snoc text_of [] text rest = refl
texts_snoc text_of (t ∷ ts) text rest = ap (λ (l : List (List ℕ)). text_of t ∷ l) (texts_snoc text_of ts text rest)

pub texts_more : {A : Type 0} (text_of : A → List ℕ) (bytes ends : List ℕ) (from i end : ℕ) (texts : List A) (text : A) (all : List (List ℕ)) → i < length ends → end ≡ slice_index ends i
    → text_of text ≡ slice_range bytes from end → map text_of texts ++ cut_at bytes from (drop i ends) ≡ all
    → map text_of (texts ++ text ∷ []) ++ cut_at bytes end (drop (suc i) ends) ≡ all
texts_more text_of bytes ends from i end texts text all h e same so_far =
    texts_snoc text_of texts text (cut_at bytes end (drop (suc i) ends))
    ∙ ap (λ (t : List ℕ). map text_of texts ++ (t ∷ cut_at bytes end (drop (suc i) ends))) same
    ∙ ap (λ (l : List (List ℕ)). map text_of texts ++ l) (sym (cut_next bytes ends from i end h e))
    ∙ so_far

-- what holds of each of two lists, one after the other, holds of each of the second
each_after : {A : Type 0} (P : A → Type 0) (xs ys : List A) → Each P (xs ++ ys) → Each P ys
each_after P [] ys h = h
each_after P (x ∷ xs) ys h = each_after P xs ys h.1

-- a piece that is no pattern refuses them all
pub refused_at : {A : Type 0} (text_of : A → List ℕ) (bytes ends : List ℕ) (from i end : ℕ) (texts : List A) (fault : CallError) → i < length ends → end ≡ slice_index ends i
    → IsPieceOrFault bytes from end (Err fault) → map text_of texts ++ cut_at bytes from (drop i ends) ≡ cut_at bytes 0 ends → (Rise bytes 0 ends → Rise bytes from (drop i ends))
    → IsPieceFault bytes ends fault
refused_at text_of bytes ends from i end texts faults.WrongEnds h e piece so_far rise = λ rises. let next = rise_next bytes ends from i end h e (rise rises) in piece (next.0, next.1)
refused_at text_of bytes ends from i end texts faults.NotUtf8 h e piece so_far rise = λ each.
    let following = each_after IsUtf8 (map text_of texts) (cut_at bytes from (drop i ends)) (subst (λ (l : List (List ℕ)). Each IsUtf8 l) (sym so_far) each) in
    let here = subst (λ (l : List (List ℕ)). Each IsUtf8 l) (cut_next bytes ends from i end h e) following in
    piece here.0
refused_at text_of bytes ends from i end texts faults.NoRegex h e piece so_far rise = absurd piece
refused_at text_of bytes ends from i end texts faults.NoSet h e piece so_far rise = absurd piece
refused_at text_of bytes ends from i end texts faults.PastEnd h e piece so_far rise = absurd piece
refused_at text_of bytes ends from i end texts faults.OffBoundary h e piece so_far rise = absurd piece
refused_at text_of bytes ends from i end texts (faults.Regex error) h e piece so_far rise = absurd piece

-- none is left
none_left : (bytes ends : List ℕ) (i from : ℕ) → length ends ≤ i → cut_at bytes from (drop i ends) ≡ []
none_left bytes [] zero from h = refl
none_left bytes [] (suc i) from h = refl
none_left bytes (x ∷ xs) zero from h = absurd (omega (arith, h))
none_left bytes (x ∷ xs) (suc i) from h = none_left bytes xs i from (omega (arith, h))

pub texts_none : (bytes ends : List ℕ) (i from : ℕ) → length ends ≤ i → AreTexts bytes from (drop i ends)
texts_none bytes [] zero from h = record { rise = tt; utf8 = tt }
texts_none bytes [] (suc i) from h = record { rise = tt; utf8 = tt }
texts_none bytes (x ∷ xs) zero from h = absurd (omega (arith, h))
texts_none bytes (x ∷ xs) (suc i) from h = texts_none bytes xs i from (omega (arith, h))

pub texts_all : {A : Type 0} (text_of : A → List ℕ) (bytes ends : List ℕ) (from i : ℕ) (texts : List A) (all : List (List ℕ)) → length ends ≤ i
    → map text_of texts ++ cut_at bytes from (drop i ends) ≡ all → map text_of texts ≡ all
texts_all text_of bytes ends from i texts all h e =
    sym (append-nil (map text_of texts)) ∙ ap (λ (l : List (List ℕ)). map text_of texts ++ l) (sym (none_left bytes ends i from h)) ∙ e
