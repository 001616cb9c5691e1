-- What the search of a delegated part finds.
use Rattle.std.proofs.Common.{◌≡◌, ℕ, ◌<◌, ◌≤◌, Bool, true, false, cond, List, [], ◌∷◌, length, map, Option, Some, None, refl, sym, ap, ap₂, subst, ◌∙◌, arith}
use Rattle.std.specs.Prelude.{◌&&◌, nat_le, nat_lt, option_map}
use Rattle.std.specs.List.{filter}
use Rattle.std.proofs.lemmas.Bool.Decides.{nat_tests}
use Rattle.fancy_regex_tree.specs.Tree.{Tree}
use Rattle.fancy_regex_meaning.specs.Groups.{pattern_of}
use Rattle.fancy_regex_meaning.specs.Positions.{boundaries}
use Rattle.fancy_regex_meaning.specs.Ways.{MatchState, Setting, with_position}
use Rattle.fancy_regex_meaning.specs.WayLaws.{Each}
use Rattle.fancy_regex_meaning.specs.Searches.{Match, Search, first_item, first_some, is_admitted, match_of, start_way, match_at, first_match, ways_at}
use Rattle.fancy_regex_meaning.proofs.ForwardProofs.{ways_go_onward}
use Rattle.fancy_regex_class.specs.RunInputs.{search_for}
use Rattle.fancy_regex_class.specs.declared.input.RunInput.{RunInput}
use Rattle.fancy_regex_linear.specs.EasyPatterns.{span_of_match}
use Rattle.fancy_regex_desugar.specs.Delegates.{is_searchable, first_end, ends_until, first_end_until}
use Rattle.fancy_regex_desugar.proofs.DelegateProofs.{tree_ends, own_ways}

only_some : {A : Type 0} (f : ℕ → Option A) (p : ℕ) → first_some f (p ∷ []) ≡ f p
only_some {A} f p = at (f p)
  where
    at : (o : Option A) → (elim o as (λ _. Option A) [ None ↦ None | Some y ↦ Some y ]) ≡ o
    at None = refl
    at (Some y) = refl

-- where the span of a match of the tree ends
module _ (t : Tree) (p : ℕ) where
  abbrev alone : MatchState
  alone = start_way (pattern_of t) p

  span_end : (ps : List ℕ) → option_map (λ (ends : ℕ × ℕ). ends.1) (option_map span_of_match (option_map match_of (first_item (map (with_position alone) ps))))
      ≡ option_map (λ w. w.position) (first_item (map (with_position alone) ps))
  span_end [] = refl
  span_end (q ∷ qs) = refl

and_true : (b : Bool) → (b && true) ≡ b
and_true true = refl
and_true false = refl

too_far : (first stop q : ℕ) → stop < first → first ≤ q → nat_le q stop ≡ false
too_far first stop q far le = grind (arith, nat_tests)

-- any range
module _ (s : Setting) (t : Tree) (d : is_searchable t ≡ true) (input : RunInput) (anchored : input.anchored ≡ true) (inside : input.first ≤ length s.text) where
  abbrev sought : Search
  sought = search_for false input

  abbrev begin : MatchState
  begin = alone t input.first

  abbrev stop : ℕ
  stop = input.range.end

  abbrev all_ends : List ℕ
  all_ends = tree_ends s t input.first

  abbrev near : List ℕ → List ℕ
  near qs = filter (λ q. nat_le q stop) qs

  kept_or_not : (b : Bool) (q : ℕ) (ws : List MatchState) (qs : List ℕ) → ws ≡ map (with_position begin) qs →
      cond b (with_position begin q ∷ ws) ws ≡ map (with_position begin) (cond b (q ∷ qs) qs)
  kept_or_not true q ws qs e = ap (λ l. with_position begin q ∷ l) e
  kept_or_not false q ws qs e = e

  ends_near : (qs : List ℕ) → filter (ends_until stop) (map (with_position begin) qs) ≡ map (with_position begin) (near qs)
  ends_near [] = refl
  ends_near (q ∷ qs) = kept_or_not (nat_le q stop) q (filter (ends_until stop) (map (with_position begin) qs)) (near qs) (ends_near qs)

  admitted_until : (ws : List MatchState) → filter (is_admitted sought) ws ≡ filter (ends_until stop) ws
  admitted_until [] = refl
  admitted_until (w ∷ ws) = ap₂ (λ b l. cond b (w ∷ l) l) (and_true (nat_le w.position stop)) (admitted_until ws)

  matched_near : match_at s (pattern_of t) sought input.first ≡ option_map match_of (first_item (map (with_position begin) (near all_ends)))
  unfolding match_at
  matched_near =
      ap (λ ws. option_map match_of (first_item ws))
      (admitted_until (ways_at s (pattern_of t) sought input.first) ∙ ap (filter (ends_until stop)) (own_ways s t d input.first) ∙ ends_near all_ends)

  none_near : stop < input.first → (qs : List ℕ) → Each (λ v. (input.first ≤ v.position) × (v.position ≤ length s.text)) (map (with_position begin) qs) → near qs ≡ []
  none_near far [] h = refl
  none_near far (q ∷ qs) h = ap (λ b. cond b (q ∷ near qs) (near qs)) (too_far input.first stop q far h.0.0) ∙ none_near far qs h.1

  found_near : first_match s (pattern_of t) sought ≡ option_map match_of (first_item (map (with_position begin) (near all_ends)))
  unfolding first_match
  found_near = at (nat_lt stop input.first) refl
    where
      f : ℕ → Option Match
      f = match_at s (pattern_of t) sought

      at : (b : Bool) → nat_lt stop input.first ≡ b → first_some f (cond b [] (cond sought.anchored (input.first ∷ []) (boundaries s.text sought.first sought.stop)))
          ≡ option_map match_of (first_item (map (with_position begin) (near all_ends)))
      at true e =
          let far : stop < input.first = grind (arith, nat_tests, e) in
          sym (ap (λ l. option_map match_of (first_item (map (with_position begin) l)))
          (none_near far all_ends (subst (Each (λ v. (input.first ≤ v.position) × (v.position ≤ length s.text))) (own_ways s t d input.first) (ways_go_onward s (pattern_of t).groups 1 t begin inside))))
      at false e =
          ap (λ b. first_some f (cond b (input.first ∷ []) (boundaries s.text sought.first sought.stop))) anchored
          ∙ only_some f input.first ∙ matched_near

  span_until : (found : Option (ℕ × ℕ)) → found ≡ option_map span_of_match (first_match s (pattern_of t) sought)
      → option_map (λ (ends : ℕ × ℕ). ends.1) found ≡ first_end_until s t stop input.first
  unfolding first_end_until
  span_until found e =
      ap (option_map (λ (ends : ℕ × ℕ). ends.1)) (e ∙ ap (option_map span_of_match) found_near)
      ∙ span_end t input.first (near all_ends)
      ∙ ap (λ ws. option_map (λ w. w.position) (first_item ws)) (sym (ap (filter (ends_until stop)) (own_ways s t d input.first) ∙ ends_near all_ends))

-- where the span ends that an anchored search for the first match answers
pub end_of_span_until : (s : Setting) (t : Tree) → is_searchable t ≡ true → (input : RunInput) → input.anchored ≡ true →
    input.first ≤ length s.text → (longest : Bool) → longest ≡ false → (found : Option (ℕ × ℕ)) →
    found ≡ option_map span_of_match (first_match s (pattern_of t) (search_for longest input)) →
    option_map (λ (ends : ℕ × ℕ). ends.1) found ≡ first_end_until s t input.range.end input.first
end_of_span_until s t d input anchored inside longest first found e =
    span_until s t d input anchored inside found
    (e ∙ ap (λ b. option_map span_of_match (first_match s (pattern_of t) (search_for b input))) first)

within : (a b : ℕ) → a ≤ b → nat_le a b ≡ true
within a b le = grind (arith, nat_tests)

-- Each way ends in the text, so a bound at the end of the text leaves all.
pub until_end : (s : Setting) (t : Tree) (p stop : ℕ) → p ≤ length s.text → stop ≡ length s.text → first_end_until s t stop p ≡ first_end s t p
unfolding first_end first_end_until
until_end s t p stop inside whole =
    ap (λ ws. option_map (λ w. w.position) (first_item ws)) (all_left _ (ways_go_onward s (pattern_of t).groups 1 t (alone t p) inside))
  where
    all_left : (ws : List MatchState) → Each (λ v. (p ≤ v.position) × (v.position ≤ length s.text)) ws → filter (ends_until stop) ws ≡ ws
    all_left [] h = refl
    all_left (w ∷ ws) h =
        ap (λ b. cond b (w ∷ filter (ends_until stop) ws) (filter (ends_until stop) ws)) (within w.position stop (omega (arith, h.0.1, whole)))
        ∙ ap (λ l. w ∷ l) (all_left ws h.1)
