-- What the search of a set finds at one position, and how it goes on to the next.
use Rattle.std.proofs.Common.{◌≡◌, ℕ, ◌+◌, ◌<◌, ◌≤◌, min, Bool, true, false, List, [], ◌∷◌, length, Option, Some, None, refl, sym, ap, subst, ◌∙◌, ⊎_elim, arith, if◌then◌else◌, IsUtf8, IsCharBoundary}
use Rattle.std.specs.Prelude.{option_map, unwrap_or}
use Rattle.std.specs.Char.{len_utf8}
use Rattle.std.proofs.lemmas.Bool.{cases_lt, true≢false}
use Rattle.regex_hir.specs.Text.{char_at}
use Rattle.fancy_regex_meaning.specs.Positions.{boundaries, position_after}
use Rattle.fancy_regex_meaning.specs.Searches.{Match, SetAnswer, first_some}
use Rattle.fancy_regex_meaning.proofs.NextBoundaryLemmas.{test_of_IsCharBoundary, inside_char}
use Rattle.fancy_regex_input.specs.SearchInputs.{FitsText}
use Rattle.fancy_regex_input.specs.declared.config.SearchConfig.{SearchConfig}
use Rattle.fancy_regex_search.specs.SearchLimits.{effective_start}
use Rattle.fancy_regex_search.proofs.MatchOffsetLemmas.{first_fits}
use Rattle.fancy_regex_search.specs.declared.regex.Regex.{Regex}
use Rattle.fancy_regex.specs.SetAnswers.{answer_of_set, found_from, last_tried, IsTriedAt}
use Rattle.fancy_regex.proofs.SetPositionLemmas.{answer_at, answer_is, answer_here, answer_later, no_place}

-- the last position that is tried lies in the range
pub last_inside : (config : SearchConfig) → last_tried config ≤ config.range_end
last_inside config = by_anchor config.anchored
  where
    by_anchor : (anchored : Bool) → (if anchored then min (effective_start config) config.range_end else config.range_end) ≤ config.range_end
    by_anchor true = omega arith
    by_anchor false = omega arith

-- between a boundary and the next one lies none
none_between : (text : List ℕ) (p q : ℕ) → p < q → q < position_after text p → IsCharBoundary text q → ⊥
none_between text p q low high cut = by_char (char_at text p) refl high
  where
    by_char : (o : Option ℕ) → char_at text p ≡ o → q < p + unwrap_or (option_map len_utf8 o) 1 → ⊥
    by_char None e lt = omega (arith, low, lt)
    by_char (Some c) e lt = true≢false (sym (test_of_IsCharBoundary text q cut) ∙ inside_char text p c q e low lt)

-- the effective start is a boundary, unless it is past the end
pub first_cut : (text : List ℕ) (config : SearchConfig) → FitsText text config → (p : ℕ) → p ≡ effective_start config → p ≤ length text → IsCharBoundary text p
first_cut text config fits p is le =
    ⊎_elim (λ (lt : config.start < config.range_start). let e : config.range_start ≡ p = omega (arith, is) in subst (IsCharBoundary text) e fits.range_start)
    (λ (ge : config.range_start ≤ config.start). let e : config.start ≡ p = omega (arith, is) in subst (IsCharBoundary text) e (fits.start (omega (arith, le, e))))
    (cases_lt config.start config.range_start)

module _ (regexes : List Regex) (text : List ℕ) (config : SearchConfig) (utf8 : IsUtf8 text) (fits : FitsText text config) where
  -- the answer, by all positions that are tried
  pub answer_first : (p : ℕ) → p ≡ effective_start config →
      answer_of_set regexes text config ≡ first_some (answer_at regexes text config) (boundaries text p (last_tried config))
  answer_first p is =
      answer_is regexes text config (λ le. first_fits text config fits le)
      ∙ ap (λ (q : ℕ). first_some (answer_at regexes text config) (boundaries text q (last_tried config))) (sym is)

  pub none_before : (p : ℕ) → p ≡ effective_start config → (q : ℕ) → IsTriedAt text config q → q < p → found_from regexes text config q 0 ≡ []
  none_before p is q tried lt = let late : effective_start config ≤ q = tried.following in absurd (omega (arith, is, lt, late))

  pub at_boundary : (p : ℕ) → (p ≤ length text → IsCharBoundary text p) → p ≤ last_tried config → IsCharBoundary text p
  at_boundary p cut within = cut (omega (arith, within, last_inside config, fits.range_end.0))

  inside_text : last_tried config ≤ length text
  inside_text = omega (arith, last_inside config, fits.range_end.0)

  module _ (p : ℕ) (cut : p ≤ length text → IsCharBoundary text p) (within : p ≤ last_tried config) where
    pub found_here : (f : ℕ × Match) (rest : List (ℕ × Match)) →
        answer_of_set regexes text config ≡ first_some (answer_at regexes text config) (boundaries text p (last_tried config)) →
        found_from regexes text config p 0 ≡ f ∷ rest → (answer : SetAnswer) × (answer_of_set regexes text config ≡ Some answer) × (answer.position ≡ p) × (answer.found ≡ f ∷ rest)
    found_here f rest left is =
        let answer : SetAnswer = record { position = p; found = f ∷ rest } in
        (answer, left ∙ answer_here regexes text config p (last_tried config) f rest utf8 (at_boundary p cut within) within inside_text is, refl, refl)

    pub tried_here : effective_start config ≤ p → IsTriedAt text config p
    tried_here following = record { boundary = at_boundary p cut within; following = following; inside = within }

    -- what holds at all tried positions up to this one holds at all before the next one
    pub all_later : (P : ℕ → Type 0) → ((q : ℕ) → IsTriedAt text config q → q < p → P q) → P p →
        (q : ℕ) → IsTriedAt text config q → q < position_after text p → P q
    all_later P before here q tried lt =
        ⊎_elim (λ (early : q < p). before q tried early)
        (λ (from : p ≤ q).
        ⊎_elim (λ (past : p < q). absurd (none_between text p q past lt tried.boundary))
        (λ (upto : q ≤ p). let same : p ≡ q = omega arith in subst P same here)
        (cases_lt p q))
        (cases_lt q p)

    pub none_later : ((q : ℕ) → IsTriedAt text config q → q < p → found_from regexes text config q 0 ≡ []) → found_from regexes text config p 0 ≡ [] →
        (q : ℕ) → IsTriedAt text config q → q < position_after text p → found_from regexes text config q 0 ≡ []
    none_later none here q tried lt = all_later (λ x. found_from regexes text config x 0 ≡ []) none here q tried lt

    pub answer_after : answer_of_set regexes text config ≡ first_some (answer_at regexes text config) (boundaries text p (last_tried config)) →
        found_from regexes text config p 0 ≡ [] →
        answer_of_set regexes text config ≡ first_some (answer_at regexes text config) (boundaries text (position_after text p) (last_tried config))
    answer_after left none = left ∙ answer_later regexes text config p (last_tried config) utf8 (at_boundary p cut within) within inside_text none

  -- past the last position nothing is left
  pub answer_none : (p : ℕ) → last_tried config < p →
      answer_of_set regexes text config ≡ first_some (answer_at regexes text config) (boundaries text p (last_tried config)) → answer_of_set regexes text config ≡ None
  answer_none p past left = left ∙ ap (first_some (answer_at regexes text config)) (no_place text p (last_tried config) past)
