-- A look-around for one character has the ways of a test of the character after the place or before it.
use Rattle.std.proofs.Common.{◌≡◌, ◌==◌, ℕ, zero, suc, ◌+◌, ◌-◌, Bool, true, false, cond, not, ◌&&◌, List, [], ◌∷◌, map, length, Option, Some, None, if◌then◌else◌, refl, sym, ap, subst, ◌∙◌, ⊎_elim, eqb-true}
use Rattle.std.specs.Char.{len_utf8}
use Rattle.std.specs.Prelude.{option_and_then}
use Rattle.std.proofs.lemmas.Option.{none-some, same_Some}
use Rattle.regex_hir.specs.Text.{is_some_and, char_at, char_before, char_of_len_before}
use Rattle.regex_hir.proofs.OptionLemmas.{option_or_cases}
use Rattle.fancy_regex_tree.specs.Tree.{Tree}
use Rattle.fancy_regex_tree.specs.declared.expr.LookAround.{LookAround}
use Rattle.fancy_regex_tree.specs.declared.expr.LookAround.TheVariants.{LookAhead, LookAheadNeg, LookBehind, LookBehindNeg}
use Rattle.fancy_regex_meaning.specs.Positions.{position_before}
use Rattle.fancy_regex_meaning.specs.Sizes.{size, size_with, size_through}
use Rattle.fancy_regex_meaning.specs.Ways.{MatchState, Setting, Meaning, character, node, with_position, match_empty_if, for_some, is_none_of, keep_only_pairs, look}

-- a character that ends at a place begins as many bytes before it as it is long
module _ (hay : List ℕ) (i c : ℕ) where
  tested : (n : ℕ) (b : Bool) (x : ℕ) → (len_utf8 x == n) ≡ b → cond b (Some x) None ≡ Some c → (len_utf8 c ≡ n) × (x ≡ c)
  tested n true x is e = let same = same_Some x c e in (ap len_utf8 (sym same) ∙ eqb-true (len_utf8 x) n is, same)
  tested n false x is e = absurd (none-some c e)

  stands : (n : ℕ) (b : Bool) (o : Option ℕ) → cond (b && is_some_and o (λ x. len_utf8 x == n)) o None ≡ Some c → (len_utf8 c ≡ n) × (o ≡ Some c)
  stands n false o e = absurd (none-some c e)
  stands n true None e = absurd (none-some c e)
  stands n true (Some x) e = let both = tested n (len_utf8 x == n) x refl e in (both.0, ap Some both.1)

  of_length : (n : ℕ) → char_of_len_before hay n i ≡ Some c → char_at hay (i - len_utf8 c) ≡ Some c
  of_length n e = let both = stands n _ _ e in subst (λ (m : ℕ). char_at hay (i - m) ≡ Some c) (sym both.0) both.1

  begins_before : char_before hay i ≡ Some c → char_at hay (i - len_utf8 c) ≡ Some c
  unfolding char_before
  begins_before e =
      ⊎_elim (of_length 1)
      (λ x. ⊎_elim (of_length 2)
      (λ y. ⊎_elim (of_length 3) (λ z. of_length 4 z.1) (option_or_cases _ _ c y.1))
      (option_or_cases _ _ c x.1))
      (option_or_cases _ _ c e)

module _ (s : Setting) (passes : ℕ → Bool) where
  -- what a look-around keeps of the ways that read one character from a place
  kept_if : (w : MatchState) (b : Bool) (p : ℕ) → keep_only_pairs w (if b then with_position w p ∷ [] else []) ≡ match_empty_if b w
  kept_if w true p = refl
  kept_if w false p = refl

  none_if : (v : MatchState) (b : Bool) → is_none_of (if b then v ∷ [] else []) ≡ not b
  none_if v true = refl
  none_if v false = refl

  kept_at : (w : MatchState) (p : ℕ) (o : Option ℕ) → char_at s.text p ≡ o
      → keep_only_pairs w (character s passes (with_position w p)) ≡ match_empty_if (is_some_and o passes) w
  kept_at w p None e = rw e refl
  kept_at w p (Some c) e = rw e (kept_if w (passes c) (p + len_utf8 c))

  none_at : (w : MatchState) (p : ℕ) (o : Option ℕ) → char_at s.text p ≡ o → is_none_of (character s passes (with_position w p)) ≡ not (is_some_and o passes)
  none_at w p None e = rw e refl
  none_at w p (Some c) e = rw e (none_if (with_position w (p + len_utf8 c)) (passes c))

  module _ (groups : List Tree) (t : Tree) (one : (size groups t).least ≡ 1) where
    abbrev m : Meaning
    m = node s groups t (character s passes)

    -- from the place one character before, if there is one
    kept_before : (w : MatchState) (o : Option ℕ) → char_before s.text w.position ≡ o → keep_only_pairs w (m.behind w) ≡ match_empty_if (is_some_and o passes) w
    kept_before w None e = rw (one, e) refl
    kept_before w (Some c) e =
        rw (one, e) (kept_at w (w.position - len_utf8 c) (Some c) (begins_before s.text w.position c e))

    none_before : (w : MatchState) (o : Option ℕ) → char_before s.text w.position ≡ o → is_none_of (m.behind w) ≡ not (is_some_and o passes)
    none_before w None e = rw (one, e) refl
    none_before w (Some c) e =
        rw (one, e) (none_at w (w.position - len_utf8 c) (Some c) (begins_before s.text w.position c e))

    -- what a look-around for this character asks
    abbrev pub asks : LookAround → ℕ → Bool
    asks LookAhead p = is_some_and (char_at s.text p) passes
    asks LookAheadNeg p = not (is_some_and (char_at s.text p) passes)
    asks LookBehind p = is_some_and (char_before s.text p) passes
    asks LookBehindNeg p = not (is_some_and (char_before s.text p) passes)

    pub looks_as : (how : LookAround) (w : MatchState) → look how m w ≡ match_empty_if (asks how w.position) w
    looks_as LookAhead w = kept_at w w.position (char_at s.text w.position) refl
    looks_as LookAheadNeg w = ap (λ b. match_empty_if b w) (none_at w w.position (char_at s.text w.position) refl)
    looks_as LookBehind w = kept_before w (char_before s.text w.position) refl
    looks_as LookBehindNeg w = ap (λ b. match_empty_if b w) (none_before w (char_before s.text w.position) refl)
