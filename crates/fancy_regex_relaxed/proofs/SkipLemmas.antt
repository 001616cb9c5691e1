-- A search may begin where the extended pattern is found first.
use Rattle.std.proofs.Common.{◌≡◌, ℕ, zero, suc, ◌+◌, ◌-◌, ◌<◌, ◌≤◌, Bool, true, false, List, [], ◌∷◌, length, Option, Some, None, refl, sym, ap, subst, ◌∙◌, arith, le-ltb, IsUtf8, IsCharBoundary}
use Rattle.std.specs.Prelude.{option_map}
use Rattle.std.specs.List.{filter}
use Rattle.std.proofs.lemmas.Bool.{cond-true, cond-false}
use Rattle.std.proofs.lemmas.Option.{none-some, same_Some}
use Rattle.regex_hir.specs.Text.{is_boundary}
use Rattle.fancy_regex_tree.specs.Tree.{Tree}
use Rattle.fancy_regex_meaning.specs.Groups.{Pattern, pattern_of}
use Rattle.fancy_regex_meaning.specs.Positions.{numbers_from, boundaries}
use Rattle.fancy_regex_meaning.specs.Ways.{Setting, ways, call_ways, max_open_calls}
use Rattle.fancy_regex_meaning.specs.Searches.{Search, Match, match_of, is_admitted, start_way, ways_at, match_at, first_some, starts, first_match}
use Rattle.fancy_regex_meaning.specs.WayLaws.{Each}
use Rattle.fancy_regex_meaning.proofs.BoundaryLemmas.{IsCharBoundary-of_test}
use Rattle.fancy_regex_meaning.proofs.EachLemmas.{Each-filter, Each-weaker, boundaries_within}
use Rattle.fancy_regex_meaning.proofs.MatchStartProofs.{chosen_holds, found_in_list}
use Rattle.fancy_regex_class.specs.RunInputs.{setting_for, search_for}
use Rattle.fancy_regex_class.specs.declared.input.RunInput.{RunInput}
use Rattle.fancy_regex_linear.specs.EasyPatterns.{span_of_match}
use Rattle.fancy_regex_relaxed.specs.Relaxed.{IsRelaxable, extended}
use Rattle.fancy_regex_relaxed.specs.Skips.{IsSkip, match_in, input_from}
use Rattle.fancy_regex_relaxed.proofs.ExtendedLemmas.{extended_finds}
use Rattle.fancy_regex_relaxed.proofs.StartLemmas.{extended_keeps}

-- a match of the extended tree starts where it was tried
starts_there : (s : Setting) (t : Tree) (find : Search) (p : ℕ) (m : Match) → match_at s (pattern_of (extended t)) find p ≡ Some m → m.start ≡ p
unfolding match_at ways
starts_there s t find p m e =
    let pattern : Pattern = pattern_of (extended t) in
    let found = found_in_list match_of _ m e in
    let all = Each-filter (λ v. v.match_start ≡ p) (is_admitted find) (ways_at s pattern find p)
    (extended_keeps s pattern.groups (call_ways s pattern.groups (max_open_calls pattern.groups) []) 1 t (start_way pattern p)) in
    let kept = chosen_holds (λ v. v.match_start ≡ p) find.options.longest _ all found.0 found.1 in
    subst (λ (x : Match). x.start ≡ p) found.2 kept

-- Two searches over places: where the first finds nothing, the second does not either.
module _ (text : List ℕ) (stop : ℕ) (f g : ℕ → Option Match) (covers : (p : ℕ) → p ≤ stop → f p ≡ None → g p ≡ None)
    (there : (p : ℕ) (m : Match) → f p ≡ Some m → m.start ≡ p) where
  none_here : (o rest other others : Option Match) → (o ≡ None → other ≡ None) → (rest ≡ None → others ≡ None)
      → ◌≡◌ {A = Option Match} (elim o [ None ↦ rest | Some y ↦ Some y ]) None
      → ◌≡◌ {A = Option Match} (elim other [ None ↦ others | Some y ↦ Some y ]) None
  none_here None rest other others h k e = rw (h refl) (k e)
  none_here (Some m) rest other others h k e = absurd (none-some m (sym e))

  none_too : (ps : List ℕ) → Each (λ p. p ≤ stop) ps → first_some f ps ≡ None → first_some g ps ≡ None
  none_too [] h e = refl
  none_too (p ∷ ps) h e = none_here (f p) (first_some f ps) (g p) (first_some g ps) (covers p h.0) (none_too ps h.1) e

  -- the boundaries among n places from i on
  abbrev places : ℕ → ℕ → List ℕ
  places n i = filter (is_boundary text) (numbers_from n i)

  -- the second search may begin where the match of the first starts, which is a boundary among the places
  record Begins (n i : ℕ) (m : Match) : Type 0 where
    range : (i ≤ m.start) × (m.start < i + n)
    boundary : is_boundary text m.start ≡ true
    same : (left : ℕ) → m.start + left ≡ i + n → first_some g (places n i) ≡ first_some g (places left m.start)

  here : (n i : ℕ) (m : Match) → is_boundary text i ≡ true → m.start ≡ i → Begins (suc n) i m
  here n i m boundary at = record {
    range = (omega (arith, at), omega (arith, at));
    boundary = subst (λ k. is_boundary text k ≡ true) (sym at) boundary;
    same = λ left k.
        let long : suc n ≡ left = omega (arith, k, at) in
        ap (λ x. first_some g (places x i)) long ∙ ap (λ x. first_some g (places left x)) (sym at);
  }

  later : (n i : ℕ) (m : Match) → first_some g (places (suc n) i) ≡ first_some g (places n (i + 1)) → Begins n (i + 1) m → Begins (suc n) i m
  later n i m skip next = record {
    range = (omega (arith, next.range.0), omega (arith, next.range.1));
    boundary = next.boundary;
    same = λ left k. skip ∙ next.same left (omega (arith, k));
  }

  at_place : (n i : ℕ) (m : Match) → i ≤ stop → (first_some f (places n (i + 1)) ≡ Some m → Begins n (i + 1) m)
      → (o : Option Match) → f i ≡ o → is_boundary text i ≡ true → ◌≡◌ {A = Option Match} (elim o [ None ↦ first_some f (places n (i + 1)) | Some y ↦ Some y ]) (Some m)
      → Begins (suc n) i m
  at_place n i m inside rest (Some x) is edge found =
      here n i m edge (ap (λ (y : Match). y.start) (sym (same_Some x m found)) ∙ there i x is)
  at_place n i m inside rest None is edge found =
      let cut = cond-true (is_boundary text i) (i ∷ places n (i + 1)) (places n (i + 1)) edge in
      let skip : ◌≡◌ {A = Option Match} (elim (g i) [ None ↦ first_some g (places n (i + 1)) | Some y ↦ Some y ]) (first_some g (places n (i + 1))) =
      rw (covers i inside is) refl in
      later n i m (ap (first_some g) cut ∙ skip) (rest found)

  at_number : (n i : ℕ) (m : Match) → i ≤ stop → (first_some f (places n (i + 1)) ≡ Some m → Begins n (i + 1) m)
      → (b : Bool) → is_boundary text i ≡ b → first_some f (places (suc n) i) ≡ Some m → Begins (suc n) i m
  at_number n i m inside rest true edge e =
      at_place n i m inside rest (f i) refl edge
      (sym (ap (first_some f) (cond-true (is_boundary text i) (i ∷ places n (i + 1)) (places n (i + 1)) edge)) ∙ e)
  at_number n i m inside rest false inner e =
      let cut = cond-false (is_boundary text i) (i ∷ places n (i + 1)) (places n (i + 1)) inner in
      later n i m (ap (first_some g) cut) (rest (sym (ap (first_some f) cut) ∙ e))

  begins : (n i : ℕ) (m : Match) → i + n ≤ suc stop → first_some f (places n i) ≡ Some m → Begins n i m
  begins zero i m inside e = absurd (none-some m e)
  begins (suc n) i m inside e =
      at_number n i m (omega (arith, inside)) (begins n (i + 1) m (omega (arith, inside))) (is_boundary text i) refl e

-- a search that is not anchored tries each boundary
starts_are : (s : Setting) (pattern : Pattern) (find : Search) → find.first ≤ find.stop → find.anchored ≡ false
    → starts s pattern find ≡ boundaries s.text find.first find.stop
starts_are s pattern find onward free = cond-false _ _ _ (le-ltb find.stop find.first onward) ∙ cond-false _ _ _ free

module _ (unicode longest : Bool) (text : List ℕ) (input : RunInput) (t : Tree) (relaxable : IsRelaxable t) (onward : input.first ≤ input.range.end)
    (whole : input.range.end ≡ length text) (free : input.anchored ≡ false) where
  abbrev tried : ℕ → Option Match
  tried = match_at (setting_for unicode text input) (pattern_of (extended t)) (search_for false input)

  abbrev asked : ℕ → Option Match
  asked = match_at (setting_for unicode text input) (pattern_of t) (search_for longest input)

  covers : (p : ℕ) → p ≤ input.range.end → tried p ≡ None → asked p ≡ None
  covers p inside none =
      extended_finds (setting_for unicode text input) (search_for longest input) t relaxable whole refl p (omega (arith, inside, whole)) none

  there : (p : ℕ) (m : Match) → tried p ≡ Some m → m.start ≡ p
  there p m is = starts_there (setting_for unicode text input) t (search_for false input) p m is

  all_tried : first_match (setting_for unicode text input) (pattern_of (extended t)) (search_for false input)
      ≡ first_some tried (boundaries text input.first input.range.end)
  unfolding first_match
  all_tried = ap (first_some tried) (starts_are (setting_for unicode text input) (pattern_of (extended t)) (search_for false input) onward free)

  asked_from : (start : ℕ) → start ≤ input.range.end
      → match_in unicode longest text (input_from input start) t ≡ first_some asked (boundaries text start input.range.end)
  unfolding first_match match_at
  asked_from start inside =
      ap (first_some asked)
      (starts_are (setting_for unicode text (input_from input start)) (pattern_of t) (search_for longest (input_from input start)) inside free)

  begins_at : (o : Option Match) → first_some tried (boundaries text input.first input.range.end) ≡ o
      → IsSkip unicode longest text input t (option_map (λ span. span.0) (option_map span_of_match o))
  begins_at None none =
      asked_from input.first onward
      ∙ none_too text input.range.end tried asked covers there (boundaries text input.first input.range.end)
      (Each-weaker (λ p. (input.first ≤ p) × (p ≤ input.range.end)) (λ p. p ≤ input.range.end) (λ p both. both.1)
      (boundaries text input.first input.range.end) (boundaries_within text input.first input.range.end))
      none
  begins_at (Some m) is =
      let it = begins text input.range.end tried asked covers there (input.range.end + 1 - input.first) input.first m (omega (arith, onward)) is in
      let inside : m.start ≤ input.range.end = omega (arith, onward, it.range.1) in (
        it.range.0,
        inside,
        IsCharBoundary-of_test text m.start (omega (arith, inside, whole)) it.boundary,
        asked_from input.first onward
            ∙ it.same (input.range.end + 1 - m.start) (omega (arith, onward, inside)) ∙ sym (asked_from m.start inside),
      )

-- The start that the extended pattern is found at first may be skipped to.
pub skips : (unicode longest : Bool) (text : List ℕ) (input : RunInput) (t : Tree) → IsRelaxable t → IsUtf8 text → input.first ≤ input.range.end
    → input.range.end ≡ length text → input.anchored ≡ false → IsCharBoundary text input.first → (found : Option (ℕ × ℕ))
    → found ≡ option_map span_of_match (first_match (setting_for unicode text input) (pattern_of (extended t)) (search_for false input))
    → IsSkip unicode longest text input t (option_map (λ span. span.0) found)
skips unicode longest text input t relaxable utf8 onward whole free boundary found is =
    subst (λ (o : Option (ℕ × ℕ)). IsSkip unicode longest text input t (option_map (λ span. span.0) o))
    (sym (is ∙ ap (option_map span_of_match) (all_tried unicode longest text input t relaxable onward whole free)))
    (begins_at unicode longest text input t relaxable onward whole free (first_some (tried unicode longest text input t relaxable onward whole free) (boundaries text input.first input.range.end)) refl)
