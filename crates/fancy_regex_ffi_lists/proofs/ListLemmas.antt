-- Lists that grow by one.
use Rattle.std.proofs.Common.{◌≡◌, ◌∙◌, ℕ, List, [], ◌∷◌, ◌++◌, Some, map, ap, sym, append_assoc, append-nil}
use Rattle.fancy_regex.specs.Searches.{Match}
use Rattle.fancy_regex_ffi_lists.specs.Spans.{span_of}
use Rattle.fancy_regex_ffi_lists.specs.Lists.{match_spans, gap_spans, member_found}
use Rattle.fancy_regex_ffi_lists.specs.declared.member.Member.{Member}
use Rattle.fancy_regex_ffi_lists.specs.declared.spans.Span.{Span}

-- a span more is listed, and a match less is left
pub spans_more : (spans : List Span) (span : Span) (m : Match) (before after : List Match) (all : List Span) → before ≡ m ∷ after → span ≡ span_of (Some (m.start, m.end))
    → spans ++ match_spans before ≡ all → (spans ++ span ∷ []) ++ match_spans after ≡ all
spans_more spans span m before after all e same so_far =
    append_assoc spans (span ∷ []) (match_spans after)
    ∙ ap (λ (s : Span). spans ++ (s ∷ match_spans after)) same
    ∙ ap (λ (ms : List Match). spans ++ match_spans ms) (sym e)
    ∙ so_far

-- all are listed
pub spans_all : (spans all : List Span) (left : List Match) → left ≡ [] → spans ++ match_spans left ≡ all → spans ≡ all
spans_all spans all left e f = sym (append-nil spans) ∙ ap (λ (ms : List Match). spans ++ match_spans ms) (sym e) ∙ f

-- a piece more is listed
pub gaps_more : (spans : List Span) (span : Span) (from next end : ℕ) (m : Match) (before after : List Match) (all : List Span) → before ≡ m ∷ after
    → span ≡ record { start = from; end = m.start } → next ≡ m.end → spans ++ gap_spans from end before ≡ all → (spans ++ span ∷ []) ++ gap_spans next end after ≡ all
gaps_more spans span from next end m before after all e same on so_far =
    append_assoc spans (span ∷ []) (gap_spans next end after)
    ∙ ap (λ (s : Span). spans ++ (s ∷ gap_spans next end after)) same
    ∙ ap (λ (n : ℕ). spans ++ (record { start = from; end = m.start } ∷ gap_spans n end after)) on
    ∙ ap (λ (ms : List Match). spans ++ gap_spans from end ms) (sym e)
    ∙ so_far

-- with the rest all are listed
pub gaps_all : (spans : List Span) (span : Span) (from end : ℕ) (all : List Span) (left : List Match) → left ≡ [] → span ≡ record { start = from; end = end }
    → spans ++ gap_spans from end left ≡ all → spans ++ span ∷ [] ≡ all
gaps_all spans span from end all left e same f =
    ap (λ (s : Span). spans ++ (s ∷ [])) same ∙ ap (λ (ms : List Match). spans ++ gap_spans from end ms) (sym e) ∙ f

-- a member more is listed
pub members_more : (members : List Member) (member : Member) (found : ℕ × Match) (left after : List (ℕ × Match)) (all : List Member) → left ≡ found ∷ after
    → member ≡ member_found found → members ++ map member_found left ≡ all → (members ++ member ∷ []) ++ map member_found after ≡ all
members_more members member found left after all e same so_far =
    append_assoc members (member ∷ []) (map member_found after)
    ∙ ap (λ (x : Member). members ++ (x ∷ map member_found after)) same
    ∙ ap (λ (fs : List (ℕ × Match)). members ++ map member_found fs) (sym e)
    ∙ so_far

-- all members are listed
pub members_all : (members all : List Member) (left : List (ℕ × Match)) → left ≡ [] → members ++ map member_found left ≡ all → members ≡ all
members_all members all left e f = sym (append-nil members) ∙ ap (λ (fs : List (ℕ × Match)). members ++ map member_found fs) (sym e) ∙ f
