-- The byte sets of a pattern hold of its searches and iterations.
use Rattle.std.proofs.Common.{◌≡◌, ⊎_elim, inl, inr, ℕ, zero, suc, ◌+◌, ◌<◌, ◌≤◌, max, Bool, true, false, ◌&&◌, List, [], length, Option, Some, None, refl, sym, ap, subst, ◌∙◌, arith, nat_lt, ◌==◌, IsUtf8, IsCharBoundary}
use Rattle.std.specs.Prelude.{option_map, unwrap_or, IfSome}
use Rattle.std.specs.Char.{len_utf8}
use Rattle.std.proofs.lemmas.Bool.{cond_both, cases_lt, ltb-false}
use Rattle.std.proofs.lemmas.Option.{none-some}
use Rattle.std.proofs.lemmas.Str.{IsUtf8-drop, IsCharBoundary-past_char}
use Rattle.regex_hir.specs.Text.{char_at}
use Rattle.regex_hir.proofs.TextLemmas.{char_at_parts}
use Rattle.fancy_regex_tree.specs.Tree.{Tree}
use Rattle.fancy_regex_meaning.specs.Groups.{pattern_of}
use Rattle.fancy_regex_meaning.specs.Positions.{position_after}
use Rattle.fancy_regex_meaning.specs.SizeLaws.{IsInOrder}
use Rattle.fancy_regex_meaning.specs.WayLaws.{Each}
use Rattle.fancy_regex_meaning.specs.Searches.{Match, is_last_end, items, all_items, find_input, search_from}
use Rattle.fancy_regex_meaning.proofs.EachLemmas.{Each-cond, Each-for_some}
use Rattle.fancy_regex_meaning.proofs.ListProofs.{advances}
use Rattle.fancy_regex_meaning.proofs.NextBoundaryLemmas.{char_of}
use Rattle.fancy_regex_info.specs.declared.error.CompileError.TheVariants.{RepeatBoundsReversed}
use Rattle.fancy_regex_analysis.specs.NodeErrors.{some_node, shows}
use Rattle.fancy_regex_bytes.specs.ByteSets.{Bytes, has}
use Rattle.fancy_regex_bytes.specs.declared.byte_set.ByteSet.{ByteSet}
use Rattle.fancy_regex_bytes.specs.StartBytes.{StartBytesHold}
use Rattle.fancy_regex_bytes.specs.RequiredBytes.{RequiredBytesHold}
use Rattle.fancy_regex_input.specs.SearchInputs.{FitsText, input_of}
use Rattle.fancy_regex_input.specs.declared.config.SearchConfig.{SearchConfig}
use Rattle.fancy_regex_search.specs.Patterns.{tree_or_empty, tree_in, pattern_in, options_in, setting_in}
use Rattle.fancy_regex_search.specs.PatternMatches.{match_from}
use Rattle.fancy_regex_search.specs.Refusals.{Accepts}
use Rattle.fancy_regex_search.specs.SearchLimits.{setting_from, search_at}
use Rattle.fancy_regex_search.specs.RegexOptions.{RegexOptions}
use Rattle.fancy_regex_search.proofs.MatchOffsetLemmas.{first_fits, first_lies}
use Rattle.fancy_regex_search.proofs.SearchLemmas.{none-past}
use Rattle.fancy_regex.specs.ByteSetLaws.{StartsIn, HoldsAll, MatchesHave, MatchesStartIn, FindsOnlyIn, MatchesRequire, FindsOnlyWith}
use Rattle.fancy_regex.proofs.InOrderLemmas.{in_order}

boundary_after : (text : List ℕ) (p : ℕ) → IsUtf8 text → IsCharBoundary text p → p < length text → IsCharBoundary text (position_after text p)
boundary_after text p utf8 h lt = by_char (char_at text p) refl
  where
    by_char : (o : Option ℕ) → char_at text p ≡ o → IsCharBoundary text (p + unwrap_or (option_map len_utf8 o) 1)
    by_char None e = absurd (char_of text p (IsUtf8-drop text p utf8 h) lt e)
    by_char (Some c) e = IsCharBoundary-past_char text _ p c h.0 (IsUtf8-drop text p utf8 h) (char_at_parts text p c e).1

later : (text : List ℕ) (a b : ℕ) → IsCharBoundary text a → IsCharBoundary text b → IsCharBoundary text (max a b)
later text a b h k =
    ⊎_elim (λ (lt : a < b). let e : b ≡ max a b = omega arith in subst (IsCharBoundary text) e k)
    (λ (ge : b ≤ a). let e : a ≡ max a b = omega arith in subst (IsCharBoundary text) e h)
    (cases_lt a b)

-- where each search from a boundary in the range finds a match with a property, each item has it
module _ (text : List ℕ) (search : ℕ → Bool → Option Match) (range_start range_end : ℕ) (P : Match → Type 0) (utf8 : IsUtf8 text) (inside : range_end ≤ length text)
    (begins : IsCharBoundary text range_start)
    (finds : (q : ℕ) (off : Bool) (m : Match) → q ≤ range_end → IsCharBoundary text q → search q off ≡ Some m → P m × IsCharBoundary text m.end × (m.end ≤ range_end)) where
  items_have : (n p : ℕ) (last : Option ℕ) (off : Bool) → (p ≤ range_end → IsCharBoundary text p) →
      Each P (items text search range_start range_end n p last off)
  unfolding items
  items_have zero p last off h = tt
  items_have (suc n) p last off h =
      let q : ℕ = max p range_start in
      cond_both (nat_lt range_end q) [] _ (Each P) (λ e. tt) (λ e.
      let le : q ≤ range_end = ltb-false _ _ e in
      Each-for_some _ _ (search q off) (λ m is.
      let well = finds q off m le (later text p range_start (h (omega arith)) begins) is in
      let step = advances text m.end in
      let next =
      items_have n (position_after text m.end) (Some m.end) (m.end == q) (λ more. boundary_after text m.end utf8 well.1 (omega (arith, more, step))) in
      Each-cond _ (nat_lt m.start m.end) _ _ (well.0, items_have n m.end (Some m.end) false (λ more. well.1))
      (Each-cond _ (is_last_end text search range_start range_end last m.end) _ _ next (well.0, next))))

module _ (o : RegexOptions) (pattern : List ℕ) (P : List ℕ → Match → Type 0)
    (holds : (text : List ℕ) (config : SearchConfig) (q : ℕ) (off : Bool) (m : Match) → IsUtf8 text → config.range_end ≤ length text → IsCharBoundary text q →
    match_from o pattern text config q off ≡ Some m → P text m) where
  found_has : (text : List ℕ) (config : SearchConfig) → IsUtf8 text → FitsText text config → (m : Match) →
      find_input (setting_in o text config) (pattern_in o pattern) (options_in o) (input_of config) ≡ Some m → P text m
  unfolding find_input
  found_has text config utf8 fits m e =
      let q : ℕ = max config.start config.range_start in
      ⊎_elim (λ (past : config.range_end < q). absurd (none-some m (sym (none-past o pattern text config q false past) ∙ e)))
      (λ (le : q ≤ config.range_end). holds text config q false m utf8 fits.range_end.0 (first_fits text config fits le) e)
      (cases_lt config.range_end q)

  ends_well : (text : List ℕ) (config : SearchConfig) (q : ℕ) (off : Bool) (m : Match) → IsUtf8 text → config.range_end ≤ length text → IsCharBoundary text q →
      match_from o pattern text config q off ≡ Some m → IsCharBoundary text m.end × (m.end ≤ config.range_end)
  unfolding search_from
  ends_well text config q off m utf8 inside at e =
      let lies = first_lies (setting_from o text config q off) (pattern_in o pattern) (search_at o config q) utf8 at inside m e in
      (lies.ends_well, lies.inside)

  items_all_have : (text : List ℕ) (config : SearchConfig) → IsUtf8 text → FitsText text config →
      Each (P text) (all_items (setting_in o text config) (pattern_in o pattern) (options_in o) (input_of config))
  unfolding all_items
  items_all_have text config utf8 fits =
      items_have text (match_from o pattern text config) config.range_start config.range_end (P text) utf8 fits.range_end.0 fits.range_start
      (λ q off m le at e.
      let well = ends_well text config q off m utf8 fits.range_end.0 at e in
      (holds text config q off m utf8 fits.range_end.0 at e, well.0, well.1))
      (length text + 2) config.start None false (λ le. fits.start (omega (arith, le, fits.range_end.0)))

  matches_have : MatchesHave o pattern P
  matches_have = record { found = found_has; items = items_all_have }

and_true : (b : Bool) → (b && true) ≡ false → b ≡ false
and_true true e = e
and_true false e = e

not_true : (b : Bool) → (b ≡ true → ⊥) → b ≡ false
not_true true h = absurd (h refl)
not_true false h = refl

-- of a pattern that a regex is built of no repeat is reversed
accepted_in_order : (o : RegexOptions) (pattern : List ℕ) → Accepts o pattern → IsInOrder (tree_in o pattern)
accepted_in_order o pattern h =
    let t : Tree = h.0.tree in
    let test : Tree → Bool = shows (length (pattern_of t).groups) RepeatBoundsReversed in
    subst IsInOrder (sym (ap tree_or_empty h.1))
    (in_order test (λ u lo hi greedy e. ltb-false hi lo (and_true (nat_lt hi lo) e)) t
    (not_true (some_node test t) (λ e. h.2.no_cause RepeatBoundsReversed (inr (inl e)))))

pub starts_hold : (o : RegexOptions) (pattern : List ℕ) (set : Bytes) → StartBytesHold o.unicode_mode (tree_in o pattern) set → MatchesStartIn o pattern set
unfolding search_from
starts_hold o pattern set law built =
    matches_have o pattern (StartsIn set) (λ text config q off m utf8 inside at e.
    (law (setting_from o text config q off) (refl, refl)).1 utf8 (accepted_in_order o pattern built) (search_at o config q) m at inside e)

pub required_hold : (o : RegexOptions) (pattern : List ℕ) (set : Bytes) → RequiredBytesHold (tree_in o pattern) set → MatchesRequire o pattern set
unfolding search_from
required_hold o pattern set law =
    matches_have o pattern (λ text m. HoldsAll set text) (λ text config q off m utf8 inside at e.
    law.1 (setting_from o text config q off) (pattern_in o pattern) refl (search_at o config q) m e)

pub found_only_with : (o : RegexOptions) (pattern : List ℕ) (set : Bytes) → RequiredBytesHold (tree_in o pattern) set → FindsOnlyWith o pattern set
found_only_with o pattern set law text config continue_at p m e =
    law.0 (record (setting_in o text config) { continue_at = continue_at }) (pattern_in o pattern) refl
    (record { first = p; stop = config.range_end; anchored = true; options = options_in o }) p m e

-- the same of a set that may not be known, of the tree that was parsed
pub starts_hold_if : (o : RegexOptions) (pattern : List ℕ) (t : Tree) (found : Option ByteSet) → t ≡ tree_in o pattern →
    IfSome found (λ set. StartBytesHold o.unicode_mode t (has set)) → IfSome found (λ set. MatchesStartIn o pattern (has set))
starts_hold_if o pattern t None same law = tt
starts_hold_if o pattern t (Some set) same law = starts_hold o pattern (has set) (subst (λ u. StartBytesHold o.unicode_mode u (has set)) same law)

pub only_in : (o : RegexOptions) (pattern : List ℕ) (set : Bytes) → StartBytesHold o.unicode_mode (tree_in o pattern) set → FindsOnlyIn o pattern set
only_in o pattern set law built text config continue_at p m utf8 at e =
    (law (record (setting_in o text config) { continue_at = continue_at }) (refl, refl)).0 utf8 (accepted_in_order o pattern built)
    (record { first = p; stop = config.range_end; anchored = true; options = options_in o }) p m at e

-- the same of a set that may not be known, of the tree that was parsed
pub only_in_if : (o : RegexOptions) (pattern : List ℕ) (t : Tree) (found : Option ByteSet) → t ≡ tree_in o pattern →
    IfSome found (λ set. StartBytesHold o.unicode_mode t (has set)) → IfSome found (λ set. FindsOnlyIn o pattern (has set))
only_in_if o pattern t None same law = tt
only_in_if o pattern t (Some set) same law = only_in o pattern (has set) (subst (λ u. StartBytesHold o.unicode_mode u (has set)) same law)
