-- The spans of the groups of a match, and their start and end offsets.
use Rattle.std.proofs.Common.{◌≡◌, ℕ, zero, suc, ◌+◌, ◌*◌, ◌/◌, ◌<◌, ◌≤◌, List, [], ◌∷◌, length, get_or, Option, Some, None, ap, refl, sym, subst, arith, ◌∙◌}
use Rattle.std.specs.Prelude.{slice_set, IsCharBoundary}
use Rattle.fancy_regex.specs.WayLaws.{Each}
use Rattle.fancy_regex.specs.ItemLaws.{AreInOrder, Ascends}
use Rattle.fancy_regex.specs.SearchLaws.{MatchHasCharBoundaries}
use Rattle.fancy_regex.specs.Searches.{Match}
use Rattle.fancy_regex.specs.Ways.{Pairs}
use Rattle.fancy_regex.specs.RunInputs.{group_slots}
use Rattle.fancy_regex.specs.CaptureSpans.{IsSpanAt, Participated}
use Rattle.fancy_search_text.specs.Lines.{spans_of}
use Rattle.fancy_search_text.specs.Spans.{AreGroupSpans}

pub flat_length : (ps : Pairs) → length (group_slots ps) ≡ 2 * length ps
flat_length [] = refl
flat_length (None ∷ ps) = let h = flat_length ps in omega arith
flat_length (Some p ∷ ps) = let h = flat_length ps in omega arith

-- the offsets of a group that did not participate
unset_places : (ps : Pairs) (k : ℕ) → k < length ps → get_or ps k None ≡ None → get_or (group_slots ps) (2 * k) 0 ≡ 18446744073709551615
unset_places [] k h e = absurd (omega arith)
unset_places (None ∷ ps) zero h e = refl
unset_places (Some p ∷ ps) zero h e = cc
unset_places (None ∷ ps) (suc k) h e = let d : 2 * suc k ≡ suc (suc (2 * k)) = omega arith in rw d (unset_places ps k (omega arith) e)
unset_places (Some p ∷ ps) (suc k) h e = let d : 2 * suc k ≡ suc (suc (2 * k)) = omega arith in rw d (unset_places ps k (omega arith) e)

unset_ends : (ps : Pairs) (k : ℕ) → k < length ps → get_or ps k None ≡ None → get_or (group_slots ps) (2 * k + 1) 0 ≡ 18446744073709551615
unset_ends [] k h e = absurd (omega arith)
unset_ends (None ∷ ps) zero h e = refl
unset_ends (Some p ∷ ps) zero h e = cc
unset_ends (None ∷ ps) (suc k) h e = let d : 2 * suc k + 1 ≡ suc (suc (2 * k + 1)) = omega arith in rw d (unset_ends ps k (omega arith) e)
unset_ends (Some p ∷ ps) (suc k) h e = let d : 2 * suc k + 1 ≡ suc (suc (2 * k + 1)) = omega arith in rw d (unset_ends ps k (omega arith) e)

-- and of one that is set
set_starts : (ps : Pairs) (k a b : ℕ) → get_or ps k None ≡ Some (a, b) → get_or (group_slots ps) (2 * k) 0 ≡ a
set_starts [] k a b e = cc
set_starts (None ∷ ps) zero a b e = cc
set_starts (Some p ∷ ps) zero a b e = ap (λ (o : Option (ℕ × ℕ)). elim o [ None ↦ 0 | Some q ↦ q.0 ]) e
set_starts (None ∷ ps) (suc k) a b e = let d : 2 * suc k ≡ suc (suc (2 * k)) = omega arith in rw d (set_starts ps k a b e)
set_starts (Some p ∷ ps) (suc k) a b e = let d : 2 * suc k ≡ suc (suc (2 * k)) = omega arith in rw d (set_starts ps k a b e)

set_ends : (ps : Pairs) (k a b : ℕ) → get_or ps k None ≡ Some (a, b) → get_or (group_slots ps) (2 * k + 1) 0 ≡ b
set_ends [] k a b e = cc
set_ends (None ∷ ps) zero a b e = cc
set_ends (Some p ∷ ps) zero a b e = ap (λ (o : Option (ℕ × ℕ)). elim o [ None ↦ 0 | Some q ↦ q.1 ]) e
set_ends (None ∷ ps) (suc k) a b e = let d : 2 * suc k + 1 ≡ suc (suc (2 * k + 1)) = omega arith in rw d (set_ends ps k a b e)
set_ends (Some p ∷ ps) (suc k) a b e = let d : 2 * suc k + 1 ≡ suc (suc (2 * k + 1)) = omega arith in rw d (set_ends ps k a b e)

set_within : (ps : Pairs) (k : ℕ) (p : ℕ × ℕ) → get_or ps k None ≡ Some p → k < length ps
set_within [] k p e = cc
set_within (x ∷ ps) zero p e = omega arith
set_within (x ∷ ps) (suc k) p e = let h = set_within ps k p e in omega arith

module _ (text : List ℕ) (ps : Pairs) where
  -- no place of a text stands for a group that is not set
  took_none : AreGroupSpans text (group_slots ps) ps → (k : ℕ) → k < length ps → get_or ps k None ≡ None → Participated text (group_slots ps) k → ⊥
  took_none are k h e took =
      let start : get_or (group_slots ps) (2 * k) 0 ≡ 18446744073709551615 = unset_places ps k h e in
      let inside : get_or (group_slots ps) (2 * k) 0 ≤ length text = took.cuts.starts.0 in
      omega arith

  took_some : AreGroupSpans text (group_slots ps) ps → (k a b : ℕ) → get_or ps k None ≡ Some (a, b) → Participated text (group_slots ps) k
  took_some are k a b e =
      let start : get_or (group_slots ps) (2 * k) 0 ≡ a = set_starts ps k a b e in
      let end : get_or (group_slots ps) (2 * k + 1) 0 ≡ b = set_ends ps k a b e in
      let within : k < length ps = set_within ps k (a, b) e in
      let cut = are.cut k a b e in
      record {
        there = let all = flat_length ps in omega arith;
        cuts = record { ordered = rw (start, end) cut.2; starts = rw start cut.0; ends = rw end cut.1 };
      }

  -- what is told of a group is its span
  span_told : AreGroupSpans text (group_slots ps) ps → (k : ℕ) → k < length ps → (told : Option (ℕ × ℕ)) → IsSpanAt text (group_slots ps) k told → told ≡ get_or ps k None
  span_told are k h told is = by_cases told (get_or ps k None) refl is
    where
      by_cases : (o w : Option (ℕ × ℕ)) → get_or ps k None ≡ w → IsSpanAt text (group_slots ps) k o → o ≡ w
      by_cases None None e s = refl
      by_cases None (Some (a, b)) e s = absurd (s (took_some are k a b e))
      by_cases (Some x) None e s = absurd (took_none are k h e s.0)
      by_cases (Some x) (Some (a, b)) e s =
          ap Some (s.1 ∙ (λ i. (set_starts ps k a b e i, set_ends ps k a b e i)))

flat_whole : (ps : Pairs) (a b : ℕ) → slice_set (slice_set (group_slots ps) 0 a) 1 b ≡ group_slots (slice_set ps 0 (Some (a, b)))
flat_whole [] a b = refl
flat_whole (None ∷ ps) a b = refl
flat_whole (Some p ∷ ps) a b = refl

-- the offsets of a match are those of its spans, which lie between character boundaries
abbrev pub HasSpans : List ℕ → Match → Type 0
HasSpans text m = AreGroupSpans text (slice_set (slice_set (group_slots m.pairs) 0 m.start) 1 m.end) (spans_of m)

whole_cut : (text : List ℕ) (m : Match) → MatchHasCharBoundaries text m → m.start ≤ m.end →
    (ps : Pairs) → ps ≡ m.pairs → (k a b : ℕ) → get_or (slice_set ps 0 (Some (m.start, m.end))) k None ≡ Some (a, b) → IsCharBoundary text a × IsCharBoundary text b × (a ≤ b)
whole_cut text m cut order [] same k a b e = cc
whole_cut text m cut order (p ∷ ps) same zero a b e =
    let starts : m.start ≡ a = ap (λ (o : Option (ℕ × ℕ)). elim o [ None ↦ 0 | Some q ↦ q.0 ]) e in
    let ends : m.end ≡ b = ap (λ (o : Option (ℕ × ℕ)). elim o [ None ↦ 0 | Some q ↦ q.1 ]) e in
    rw (← starts, ← ends) (cut.0, cut.1, order)
whole_cut text m cut order (p ∷ ps) same (suc k) a b e = cut.2 (suc k) a b (sym (ap (λ (qs : Pairs). get_or qs (suc k) None) same) ∙ e)

has_spans : (text : List ℕ) (m : Match) → length text < 18446744073709551615 → MatchHasCharBoundaries text m → m.start ≤ m.end → HasSpans text m
has_spans text m fits cut order = record { places_are = flat_whole m.pairs m.start m.end; cut = whole_cut text m cut order m.pairs refl; fits = fits }

ordered_rest : (e : ℕ) (ms : List Match) → Ascends e ms → Each (λ m. m.start ≤ m.end) ms
ordered_rest e [] h = tt
ordered_rest e (m ∷ ms) h = (h.1, ordered_rest m.end ms h.3)

ordered_all : (ms : List Match) → AreInOrder ms → Each (λ m. m.start ≤ m.end) ms
ordered_all [] h = tt
ordered_all (m ∷ ms) h = (h.0, ordered_rest m.end ms h.1)

pub all_have_spans : (text : List ℕ) (stop : ℕ) (ms : List Match) → length text < 18446744073709551615 → AreInOrder ms
    → Each (λ m. MatchHasCharBoundaries text m × (m.end ≤ stop)) ms → Each (HasSpans text) ms
all_have_spans text stop ms fits order cut = go ms (ordered_all ms order) cut
  where
    go : (ms : List Match) → Each (λ m. m.start ≤ m.end) ms → Each (λ m. MatchHasCharBoundaries text m × (m.end ≤ stop)) ms → Each (HasSpans text) ms
    go [] o c = tt
    go (m ∷ ms) o c = (has_spans text m fits c.0.0 o.0, go ms o.1 c.1)

-- the text for a group, from offsets that are those of the spans
pub shown : (text slots : List ℕ) (ps : Pairs) → AreGroupSpans text slots ps → (k : ℕ) → k < length slots / 2
    → (told : Option (ℕ × ℕ)) → IsSpanAt text slots k told → (k < length ps) × (told ≡ get_or ps k None)
shown text slots ps are k h told is =
    let all = flat_length ps in
    let same : length slots ≡ length (group_slots ps) = ap length are.places_are in
    let within : k < length ps = omega arith in (
      within,
      span_told text ps (record { places_are = refl; cut = are.cut; fits = are.fits }) k within told (subst (λ (xs : List ℕ). IsSpanAt text xs k told) are.places_are is),
    )

-- as many groups as spans
pub groups_all : (text slots : List ℕ) (ps : Pairs) → AreGroupSpans text slots ps → length slots / 2 ≡ length ps
groups_all text slots ps are =
    let all = flat_length ps in
    let same : length slots ≡ length (group_slots ps) = ap length are.places_are in
    omega arith

-- the offsets of the first remaining match are those of its spans
pub first_spans : (text seen slots : List ℕ) (m : Match) (before after : List Match) → Each (HasSpans text) before → before ≡ m ∷ after → seen ≡ text
    → slots ≡ slice_set (slice_set (group_slots m.pairs) 0 m.start) 1 m.end → AreGroupSpans seen slots (spans_of m)
first_spans text seen slots m before after all e t p = rw (t, p) (each_first before all e)
  where
    each_first : (ms : List Match) → Each (HasSpans text) ms → ms ≡ m ∷ after → HasSpans text m
    each_first ms h s = let both = rw s at h in both.0

pub each_later : (text seen : List ℕ) (m : Match) (before after : List Match) → Each (HasSpans text) before → before ≡ m ∷ after → seen ≡ text → Each (HasSpans seen) after
each_later text seen m before after all e t = rw t (let both = rw e at all in both.1)
