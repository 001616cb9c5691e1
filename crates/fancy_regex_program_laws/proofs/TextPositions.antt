-- The places of a text, one after the other.
use Rattle.std.proofs.Common.{◌≡◌, ℕ, suc, ◌+◌, ◌-◌, ◌<◌, ◌≤◌, true, cond, List, [], ◌∷◌, length, Option, Some, None, refl, sym, ap, ◌∙◌, subst, arith}
use Rattle.std.specs.Prelude.{option_and_then}
use Rattle.std.specs.List.{filter}
use Rattle.std.specs.Str.{IsUtf8, IsCharBoundary}
use Rattle.std.specs.Char.{len_utf8}
use Rattle.std.proofs.lemmas.Str.{IsUtf8-drop, IsCharBoundary-past_char, len_utf8_bounds}
use Rattle.regex_hir.specs.Text.{char_at, is_boundary}
use Rattle.regex_hir.proofs.TextLemmas.{char_at_fits, char_at_parts}
use Rattle.fancy_regex_meaning.specs.Positions.{numbers_from, boundaries, position_before}
use Rattle.fancy_regex_class.proofs.AdjacentCharLemmas.{char_before_past}
use Rattle.fancy_regex_meaning.proofs.NextBoundaryLemmas.{next_place, end_place}
use Rattle.fancy_regex_program.specs.Machine.{match_char}
use Rattle.fancy_regex_program_laws.proofs.Runs.{boundary_is}

-- What comes after a place: nothing, or the next place, which is one character on, and the places after that.
abbrev pub IsFollowedBy : List ℕ → ℕ → List ℕ → Type 0
IsFollowedBy text p [] = match_char text (λ c. true) p ≡ None
IsFollowedBy text p (q ∷ qs) =
    (match_char text (λ c. true) p ≡ Some q) × (p < q) × IsCharBoundary text q × (position_before text 1 q ≡ Some p) × (boundaries text q (length text) ≡ q ∷ qs)

-- the places after a place
abbrev pub places_after : List ℕ → ℕ → List ℕ
places_after text p = filter (is_boundary text) (numbers_from (length text - p) (p + 1))

pub places_from : (text : List ℕ) (p : ℕ) → IsCharBoundary text p → boundaries text p (length text) ≡ p ∷ places_after text p
places_from text p here =
    let le : p ≤ length text = here.0 in
    let n : length text + 1 - p ≡ suc (length text - p) = omega arith in
    ap (λ k. filter (is_boundary text) (numbers_from k p)) n
    ∙ ap (λ b. cond b (p ∷ places_after text p) (places_after text p)) (boundary_is text p here)

pub followed_by : (text : List ℕ) → IsUtf8 text → (p : ℕ) (qs : List ℕ) → IsCharBoundary text p → boundaries text p (length text) ≡ p ∷ qs → IsFollowedBy text p qs
followed_by text utf8 p qs here e = at (char_at text p) refl
  where
    at : (o : Option ℕ) → char_at text p ≡ o → IsFollowedBy text p qs
    at None none =
        let le : p ≤ length text = here.0 in
        let last : p ∷ qs ≡ p ∷ [] = sym e ∙ end_place text p (length text) utf8 here none le (omega arith) in
        let same : qs ≡ [] = cc in
        subst (IsFollowedBy text p) (sym same) (ap (λ (o : Option ℕ). elim o [ None ↦ None | Some c ↦ Some (p + len_utf8 c) ]) none)
    at (Some c) found =
        let le : p ≤ length text = here.0 in
        let q = p + len_utf8 c in
        let fits = char_at_fits text p c found in
        let some = len_utf8_bounds c in
        let cut : IsCharBoundary text q = IsCharBoundary-past_char text _ p c le (IsUtf8-drop text p utf8 here) (char_at_parts text p c found).1 in
        let more = places_from text q cut in
        let all : p ∷ qs ≡ p ∷ q ∷ places_after text q =
        sym e ∙ next_place text p (length text) c here found (omega (arith, fits)) le ∙ ap (λ l. p ∷ l) more in
        let same : qs ≡ q ∷ places_after text q = cc in
        let back : q - len_utf8 c ≡ p = omega arith in
        subst (IsFollowedBy text p) (sym same) (
          ap (λ (o : Option ℕ). elim o [ None ↦ None | Some d ↦ Some (p + len_utf8 d) ]) found,
          omega (arith, some),
          cut,
          ap (option_and_then (λ d. Some (q - len_utf8 d))) (char_before_past text p c found) ∙ ap Some back,
          more,
        )
