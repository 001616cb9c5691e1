-- Where ways lead.
use Rattle.std.proofs.Common.{◌≡◌, ℕ, ◌+◌, ◌-◌, ◌<◌, ◌≤◌, Bool, true, false, cond, List, length, take, drop, get_or, set, Option, Some, None, refl, sym, ap, subst, ◌∙◌, ⊎_elim, arith, nat_le, ◌==◌, get_or-set_same, get_or-set_other, length-drop, ◌&&◌}
use Rattle.std.proofs.lemmas.List.{get_or_past, length-set}
use Rattle.std.specs.Prelude.{slice_range, slice_index}
use Rattle.std.specs.Char.{len_utf8}
use Rattle.std.specs.Str.{IsUtf8, IsCharBoundary}
use Rattle.std.proofs.lemmas.Bool.{and_parts, leb-true, eqb-true, cases_eq, cases_lt}
use Rattle.std.proofs.lemmas.Option.{none-some, same_Some}
use Rattle.std.specs.Cmp.Lexicographic.{same_text}
use Rattle.std.proofs.lemmas.Str.{IsUtf8-between, IsUtf8-drop, IsCharBoundary-past_char, IsCharBoundary-from_take, IsCharBoundary-from_rest}
use Rattle.regex_hir.specs.Text.{char_at, char_before, char_of_len_before, is_some_and}
use Rattle.regex_hir.proofs.TextLemmas.{char_at_fits, char_at_parts}
use Rattle.regex_hir.proofs.Utf8Lemmas.{char_at_cases, IsOneByteAt, IsTwoBytesAt, IsThreeBytesAt, IsFourBytesAt}
use Rattle.regex_hir.proofs.OptionLemmas.{option_or_cases}
use Rattle.fancy_regex_meaning.proofs.BoundaryLemmas.{IsCharBoundary-of_test}
use Rattle.fancy_regex_tree.specs.Tree.{Tree}
use Rattle.fancy_regex_meaning.specs.Ways.{MatchState, Setting, with_position, set_pair, pair_of, spells_alike, same_bytes}
use Rattle.fancy_regex_meaning.specs.WayLaws.{WaysMoveForward, WaysHaveCharBoundaries, HasCharBoundaries}
use Rattle.fancy_regex_meaning.proofs.WayProofs.{Keeps, ways_go_well}

module _ (s : Setting) where
  fits_text : (casei : Bool) (x y p q : ℕ) → cond casei (spells_alike s x y p q) (same_bytes s x y p q) ≡ true → q ≤ length s.text
  fits_text true x y p q e = leb-true q (length s.text) (and_parts _ _ (and_parts _ _ e).0).0
  fits_text false x y p q e = leb-true q (length s.text) (and_parts _ _ e).0

  keeps_inside : Keeps s (λ w. w.position ≤ length s.text)
  keeps_inside = record {
    past_char = λ w c h e. char_at_fits s.text w.position c e;
    before_char = λ w c h e. omega arith;
    goes_back = λ w v h k. h;
    pair = λ k w v h i le. i;
    keep = λ w h. h;
    again = λ k casei a b w h e same. fits_text casei a b w.position (w.position + (b - a)) same;
    jump = λ w q h le e. le;
  }

pub ways_go_onward : (s : Setting) (groups : List Tree) → WaysMoveForward s groups
ways_go_onward s groups n t = ways_go_well s _ (keeps_inside s) groups n t

-- the lead byte of a character is no continuation byte
is_lead : (hay : List ℕ) (i c : ℕ) → char_at hay i ≡ Some c → 128 ≤ slice_index hay i → 192 ≤ slice_index hay i
is_lead hay i c e high =
    ⊎_elim (λ (x : IsOneByteAt hay i c). absurd (omega (arith, x.0, x.2)))
    (⊎_elim (λ (x : IsTwoBytesAt hay i c). omega (arith, x.3))
    (⊎_elim (λ (x : IsThreeBytesAt hay i c). omega (arith, x.3)) (λ (x : IsFourBytesAt hay i c). omega (arith, x.2))))
    (char_at_cases hay i c e).1

starts_character : (hay : List ℕ) (i c : ℕ) → char_at hay i ≡ Some c → IsCharBoundary hay i
starts_character hay i c e = (omega (arith, char_at_fits hay i c e), λ lt high. is_lead hay i c e high)

-- a character that ends at i begins at its length before it
ends_there : (hay : List ℕ) (n i c : ℕ) → char_of_len_before hay n i ≡ Some c → (len_utf8 c ≡ n) × (char_at hay (i - n) ≡ Some c)
ends_there hay n i c e = passes (nat_le n i) (char_at hay (i - n)) e
  where
    tested : (b : Bool) (x : ℕ) → cond b (Some x) None ≡ Some c → (b ≡ true) × (x ≡ c)
    tested true x e = (refl, same_Some x c e)
    tested false x e = absurd (none-some c e)

    passes : (b : Bool) (o : Option ℕ) → cond (b && is_some_and o (λ x. len_utf8 x == n)) o None ≡ Some c → (len_utf8 c ≡ n) × (o ≡ Some c)
    passes false o e = absurd (none-some c e)
    passes true None e = absurd (none-some c e)
    passes true (Some x) e =
        let both = tested (len_utf8 x == n) x e in
        (ap len_utf8 (sym both.1) ∙ eqb-true (len_utf8 x) n both.0, ap Some both.1)

at_length : (hay : List ℕ) (n i c : ℕ) → char_of_len_before hay n i ≡ Some c → char_at hay (i - len_utf8 c) ≡ Some c
at_length hay n i c e = let both = ends_there hay n i c e in subst (λ m. char_at hay (i - m) ≡ Some c) (sym both.0) both.1

begins_before : (hay : List ℕ) (i c : ℕ) → char_before hay i ≡ Some c → char_at hay (i - len_utf8 c) ≡ Some c
unfolding char_before
begins_before hay i c e =
    ⊎_elim (λ x. at_length hay 1 i c x)
    (λ x. ⊎_elim (λ y. at_length hay 2 i c y)
    (λ y. ⊎_elim (λ z. at_length hay 3 i c z) (λ z. at_length hay 4 i c z.1) (option_or_cases _ _ c y.1))
    (option_or_cases _ _ c x.1))
    (option_or_cases _ _ c e)

module _ (s : Setting) (utf8 : IsUtf8 s.text) where
  cut_past : (w : MatchState) (c : ℕ) → HasCharBoundaries s.text w → char_at s.text w.position ≡ Some c → HasCharBoundaries s.text (with_position w (w.position + len_utf8 c))
  cut_past w c h e =
      (IsCharBoundary-past_char s.text _ w.position c h.0.0 (IsUtf8-drop s.text w.position utf8 h.0) (char_at_parts s.text w.position c e).1, h.1, h.2)

  cut_before : (w : MatchState) (c : ℕ) → HasCharBoundaries s.text w → char_before s.text w.position ≡ Some c → HasCharBoundaries s.text (with_position w (w.position - len_utf8 c))
  cut_before w c h e = (starts_character s.text _ c (begins_before s.text w.position c e), h.1, h.2)

  cut_pair : (k : ℕ) (w v : MatchState) → HasCharBoundaries s.text w → HasCharBoundaries s.text v → w.position ≤ v.position →
      HasCharBoundaries s.text (set_pair k (w.position, v.position) v)
  cut_pair k w v h i le = (
    i.0,
    λ j a b e.
        ⊎_elim
        (λ (here : j ≡ k). ⊎_elim
        (λ (inside : k < length v.pairs).
        let is : (w.position, v.position) ≡ (a, b) = same_Some _ _ (sym (get_or-set_same v.pairs k _ None inside) ∙ ap (λ n. get_or (set v.pairs k (Some (w.position, v.position))) n None) (sym here) ∙ e) in
        subst (λ (x : ℕ × ℕ). IsCharBoundary s.text x.0 × IsCharBoundary s.text x.1 × (x.0 ≤ x.1)) is (h.0, i.0, le))
        (λ (past : length v.pairs ≤ k).
        absurd (none-some _ (sym (get_or_past (set v.pairs k (Some (w.position, v.position))) j None (omega (arith, length-set v.pairs k (Some (w.position, v.position))))) ∙ e)))
        (cases_lt k (length v.pairs)))
        (λ (other : j ≡ k → ⊥). i.1 j a b (sym (get_or-set_other v.pairs k j (Some (w.position, v.position)) None other) ∙ e))
        (cases_eq j k),
    i.2,
  )

  cut_again : (k : ℕ) (casei : Bool) (a b : ℕ) (w : MatchState) → HasCharBoundaries s.text w → pair_of w k ≡ Some (a, b) →
      cond casei (spells_alike s a b w.position (w.position + (b - a))) (same_bytes s a b w.position (w.position + (b - a))) ≡ true →
      HasCharBoundaries s.text (with_position w (w.position + (b - a)))
  cut_again k true a b w h e same =
      let outer = and_parts _ _ same in
      let inner = and_parts _ _ outer.0 in
      (IsCharBoundary-of_test s.text _ (leb-true _ _ inner.0) inner.1, h.1, h.2)
  cut_again k false a b w h e same =
      let both = and_parts _ _ same in
      let cuts = h.1 k a b e in
      let inside : w.position + (b - a) ≤ length s.text = leb-true _ _ both.0 in
      let long : w.position + (b - a) - w.position ≡ b - a = omega arith in
      let bytes : slice_range s.text a b ≡ take (b - a) (drop w.position s.text) =
      same_text _ _ (sym both.1) ∙ ap (λ n. take n (drop w.position s.text)) long in
      let piece : IsUtf8 (take (b - a) (drop w.position s.text)) =
      subst IsUtf8 bytes (IsUtf8-between s.text a b utf8 cuts.2 cuts.0 cuts.1) in
      let seam = IsCharBoundary-from_take (drop w.position s.text) (b - a) (IsUtf8-drop s.text w.position utf8 h.0) (omega (arith, length-drop w.position s.text)) piece in
      (IsCharBoundary-from_rest s.text w.position (b - a) h.0.0 seam, h.1, h.2)

  pub keeps_cuts : Keeps s (HasCharBoundaries s.text)
  keeps_cuts = record {
    past_char = cut_past;
    before_char = cut_before;
    goes_back = λ w v h k. (h.0, k.1, h.2);
    pair = cut_pair;
    keep = λ w h. (h.0, h.1, h.0);
    again = cut_again;
    jump = λ w q h le e. (IsCharBoundary-of_test s.text q le e, h.1, h.2);
  }

pub ways_cut_well : (s : Setting) (groups : List Tree) → WaysHaveCharBoundaries s groups
ways_cut_well s groups utf8 n t = ways_go_well s _ (keeps_cuts s utf8) groups n t
