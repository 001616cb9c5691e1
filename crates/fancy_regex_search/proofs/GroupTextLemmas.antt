-- The text of a group from its span.
use Rattle.std.proofs.Common.{◌≡◌, ℕ, ◌+◌, ◌*◌, ◌<◌, ◌≤◌, ◌&&◌, Bool, true, false, List, length, Option, Some, None, chars, refl, sym, ap, ◌∙◌, rules, arith, nat_lt}
use Rattle.std.proofs.lemmas.Bool.{false≢true}
use Rattle.std.specs.Prelude.{nat_le, slice_index, slice_range, option_map, IsUtf8, encode_utf8_all, if◌then◌else◌}
use Rattle.std.proofs.lemmas.Str.{chars-encodes}
use Rattle.regex_hir.specs.Text.{is_boundary}
use Rattle.fancy_regex_meaning.proofs.BoundaryLemmas.{IsCharBoundary-of_test}
use Rattle.fancy_regex_meaning.proofs.NextBoundaryLemmas.{test_of_IsCharBoundary}
use Rattle.fancy_regex_search.specs.CaptureSpans.{IsSpanAt, Participated}
use Rattle.fancy_regex_search.specs.GroupTexts.{has_participated, text_at}

both : (a b : Bool) → (a && b) ≡ true → (a ≡ true) × (b ≡ true)
both true b e = (refl, e)
both false b e = absurd (false≢true e)

less_test : (a b : ℕ) → a < b → nat_lt a b ≡ true
less_test a b h = search rules

less_of : (a b : ℕ) → nat_lt a b ≡ true → a < b
less_of a b h = search rules

most_test : (a b : ℕ) → a ≤ b → nat_le a b ≡ true
most_test a b h = search rules

most_of : (a b : ℕ) → nat_le a b ≡ true → a ≤ b
most_of a b h = search rules

has_of : (text slots : List ℕ) (k : ℕ) → Participated text slots k → has_participated text slots k ≡ true
has_of text slots k h =
    let start = slice_index slots (2 * k) in
    let end = slice_index slots (2 * k + 1) in
    let a : nat_lt (2 * k + 1) (length slots) ≡ true = less_test _ _ h.there in
    let b : nat_le start end ≡ true = most_test _ _ h.cuts.ordered in
    let c : nat_le end (length text) ≡ true = most_test _ _ h.cuts.ends.0 in
    let d : is_boundary text start ≡ true = test_of_IsCharBoundary text start h.cuts.starts in
    let e : is_boundary text end ≡ true = test_of_IsCharBoundary text end h.cuts.ends in
    rw (a, b, c, d, e) refl

of_has : (text slots : List ℕ) (k : ℕ) → has_participated text slots k ≡ true → Participated text slots k
of_has text slots k h =
    let a = both _ _ h in
    let b = both _ _ a.1 in
    let c = both _ _ b.1 in
    let d = both _ _ c.1 in
    let ordered = most_of _ _ b.0 in
    let inside = most_of _ _ c.0 in
    record {
      there = less_of _ _ a.0;
      cuts = record {
        ordered = ordered;
        starts = IsCharBoundary-of_test text (slice_index slots (2 * k)) (omega (arith, ordered, inside)) d.0;
        ends = IsCharBoundary-of_test text (slice_index slots (2 * k + 1)) inside d.1;
      };
    }

no_text : {A : Type 0} (b : Bool) (x : A) → (b ≡ true → ⊥) → None ≡ (if b then Some x else None)
no_text true x h = absurd (h refl)
no_text false x h = refl

pub span_text : (text slots : List ℕ) (k : ℕ) (r : Option (ℕ × ℕ)) → IsSpanAt text slots k r → option_map (λ x. chars (slice_range text x.0 x.1)) r ≡ text_at text slots k
unfolding text_at
span_text text slots k None h = no_text (has_participated text slots k) _ (λ e. h (of_has text slots k e))
span_text text slots k (Some span) h = rw (has_of text slots k h.0, h.1) refl

-- a text is the bytes of its characters
pub encoded_text : (t : List ℕ) → IsUtf8 t → encode_utf8_all (chars t) ≡ t
encoded_text t u = ap (λ x. encode_utf8_all (chars x)) (sym u.1.1) ∙ ap encode_utf8_all (chars-encodes u.0 u.1.0) ∙ u.1.1
