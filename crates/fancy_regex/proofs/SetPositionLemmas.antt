-- The positions that the search of a set tries, one after another.
use Rattle.std.proofs.Common.{◌≡◌, ℕ, ◌+◌, ◌-◌, ◌<◌, ◌≤◌, min, Bool, true, false, List, [], ◌∷◌, length, Option, Some, None, refl, sym, ap, ◌∙◌, ⊎_elim, arith, nat_lt, lt-ltb, le-ltb, if◌then◌else◌, IsUtf8, IsCharBoundary}
use Rattle.std.specs.Prelude.{option_map, unwrap_or}
use Rattle.std.specs.List.{filter}
use Rattle.std.specs.Char.{len_utf8}
use Rattle.std.proofs.lemmas.Bool.{cases_lt}
use Rattle.regex_hir.specs.Text.{char_at, is_boundary}
use Rattle.fancy_regex_meaning.specs.Positions.{numbers_from, boundaries, position_after}
use Rattle.fancy_regex_meaning.specs.Searches.{Match, SetAnswer, answer_if_any, first_some, set_starts, set_answer}
use Rattle.fancy_regex_meaning.proofs.NextBoundaryLemmas.{from_here, next_place, last_place, end_place, char_of}
use Rattle.std.proofs.lemmas.Str.{IsUtf8-drop}
use Rattle.fancy_regex_input.specs.SearchInputs.{input_of}
use Rattle.fancy_regex_input.specs.declared.config.SearchConfig.{SearchConfig}
use Rattle.fancy_regex_search.specs.SearchLimits.{effective_start}
use Rattle.fancy_regex_search.specs.declared.regex.Regex.{Regex}
use Rattle.fancy_regex.specs.SetAnswers.{members_of, answer_of_set, found_from, last_tried}

-- no boundary lies past the last one
pub no_place : (text : List ℕ) (p last : ℕ) → last < p → boundaries text p last ≡ []
no_place text p last past = let none : last + 1 - p ≡ 0 = omega arith in ap (λ n. filter (is_boundary text) (numbers_from n p)) none

-- after a boundary comes the one of the next character
pub next_boundary : (text : List ℕ) (p last : ℕ) → IsUtf8 text → IsCharBoundary text p → p ≤ last → last ≤ length text →
    boundaries text p last ≡ p ∷ boundaries text (position_after text p) last
next_boundary text p last utf8 cut within inside = by_char (char_at text p) refl
  where
    by_char : (o : Option ℕ) → char_at text p ≡ o → boundaries text p last ≡ p ∷ boundaries text (p + unwrap_or (option_map len_utf8 o) 1) last
    by_char None e =
        ⊎_elim (λ (lt : p < length text). absurd (char_of text p (IsUtf8-drop text p utf8 cut) lt e))
        (λ (ge : length text ≤ p). end_place text p last utf8 cut e within inside ∙ ap (λ ps. p ∷ ps) (sym (no_place text (p + 1) last (omega arith))))
        (cases_lt p (length text))
    by_char (Some c) e =
        ⊎_elim (λ (late : last - p < len_utf8 c). last_place text p last c cut e late within ∙ ap (λ ps. p ∷ ps) (sym (no_place text (p + len_utf8 c) last (omega arith))))
        (λ (fits : len_utf8 c ≤ last - p). next_place text p last c cut e fits within)
        (cases_lt (last - p) (len_utf8 c))

module _ (regexes : List Regex) (text : List ℕ) (config : SearchConfig) where
  -- the answer at one position
  abbrev pub answer_at : ℕ → Option SetAnswer
  answer_at p = answer_if_any (members_of text config regexes) (input_of config) p (found_from regexes text config p 0)

  -- the positions of a search, by whether it starts past its range and whether it is anchored
  abbrev chosen_starts : Bool → Bool → List ℕ
  chosen_starts past anchored =
      if past then [] else if anchored then effective_start config ∷ [] else boundaries text (effective_start config) config.range_end

  abbrev last_if : Bool → ℕ
  last_if anchored = if anchored then min (effective_start config) config.range_end else config.range_end

  past_end : config.range_end < effective_start config → (anchored : Bool) →
      chosen_starts (nat_lt config.range_end (effective_start config)) anchored ≡ boundaries text (effective_start config) (last_if anchored)
  past_end past anchored =
      let last : last_if anchored < effective_start config = elim anchored as (λ b. last_if b < effective_start config) [ true ↦ omega arith | false ↦ past ] in
      ap (λ b. chosen_starts b anchored) (lt-ltb _ _ past) ∙ sym (no_place text (effective_start config) (last_if anchored) last)

  in_range : IsCharBoundary text (effective_start config) → effective_start config ≤ config.range_end → (anchored : Bool) →
      chosen_starts (nat_lt config.range_end (effective_start config)) anchored ≡ boundaries text (effective_start config) (last_if anchored)
  in_range cut within true =
      let p : ℕ = effective_start config in
      let same : p ≡ min p config.range_end = omega arith in
      let none : 0 ≡ p - p = omega arith in
      ap (λ b. chosen_starts b true) (le-ltb _ _ within)
      ∙ ap (λ n. p ∷ filter (is_boundary text) (numbers_from n (p + 1))) none
      ∙ sym (from_here text p p cut (omega arith))
      ∙ ap (boundaries text p) same
  in_range cut within false = ap (λ b. chosen_starts b false) (le-ltb _ _ within)

  starts_are : (effective_start config ≤ config.range_end → IsCharBoundary text (effective_start config)) →
      set_starts (members_of text config regexes) (input_of config) text ≡ boundaries text (effective_start config) (last_tried config)
  starts_are cut =
      ⊎_elim (λ (past : config.range_end < effective_start config). past_end past config.anchored)
      (λ (within : effective_start config ≤ config.range_end). in_range (cut within) within config.anchored)
      (cases_lt config.range_end (effective_start config))

  -- the answer of the set, by the positions from the first on
  pub answer_is : (effective_start config ≤ config.range_end → IsCharBoundary text (effective_start config)) →
      answer_of_set regexes text config ≡ first_some answer_at (boundaries text (effective_start config) (last_tried config))
  unfolding set_answer
  answer_is cut = ap (first_some answer_at) (starts_are cut)

  -- a position where nothing is found is passed over
  pub answer_later : (p last : ℕ) → IsUtf8 text → IsCharBoundary text p → p ≤ last → last ≤ length text → found_from regexes text config p 0 ≡ [] →
      first_some answer_at (boundaries text p last) ≡ first_some answer_at (boundaries text (position_after text p) last)
  answer_later p last utf8 cut within inside none =
      ap (first_some answer_at) (next_boundary text p last utf8 cut within inside)
      ∙ ap (λ xs. elim (answer_if_any (members_of text config regexes) (input_of config) p xs) [ None ↦ first_some answer_at (boundaries text (position_after text p) last) | Some y ↦ Some y ]) none

  -- a position where something is found has the answer
  pub answer_here : (p last : ℕ) (x : ℕ × Match) (xs : List (ℕ × Match)) → IsUtf8 text → IsCharBoundary text p → p ≤ last → last ≤ length text →
      found_from regexes text config p 0 ≡ x ∷ xs →
      first_some answer_at (boundaries text p last) ≡ Some (record { position = p; found = x ∷ xs })
  answer_here p last x xs utf8 cut within inside is =
      ap (first_some answer_at) (next_boundary text p last utf8 cut within inside)
      ∙ ap (λ ys. elim (answer_if_any (members_of text config regexes) (input_of config) p ys) [ None ↦ first_some answer_at (boundaries text (position_after text p) last) | Some y ↦ Some y ]) is
