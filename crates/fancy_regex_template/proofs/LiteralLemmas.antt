-- The text before the first occurrence of a character.
use Rattle.std.proofs.Common.{◌≡◌, ℕ, Bool, not, ◌==◌, List, [], ◌∷◌, take, drop, refl, sym, ap, ◌∙◌, subst, IsUtf8, chars, append-nil}
use Rattle.std.specs.Str.{IsCharBoundary, NoCharPasses, NonePass}
use Rattle.std.specs.Str.Pattern.{HasCharAt}
use Rattle.std.proofs.lemmas.Str.{IsUtf8-take, IsUtf8-drop, chars-append, chars_past_char, chars_from_encodes}
use Rattle.std.proofs.lemmas.List.{take-append-drop}
use Rattle.std.proofs.lemmas.Bool.{not_from_false, not_from_true, eq-eqb}
use Rattle.fancy_regex_text.specs.Text.{Text, span}
use Rattle.fancy_regex_template.specs.Cuts.{AllPass, StopsAt}
use Rattle.fancy_regex_template.proofs.Runs.{span_only}

abbrev pub is_other : ℕ → ℕ → Bool
is_other c d = not (d == c)

others : (c : ℕ) (t : Text) → NonePass (λ d. d == c) t → AllPass (is_other c) t
others c [] none = tt
others c (d ∷ t) none = (not_from_false (d == c) none.0, others c t none.1)

others_in : (c : ℕ) (s : List ℕ) → IsUtf8 s → NoCharPasses (λ d. d == c) s → AllPass (is_other c) (chars s)
others_in c s u (cs, spells, none) = others c (chars s) (subst (λ t. NonePass (λ d. d == c) t) (chars_from_encodes cs s u spells) none)

pub literal_found : (c : ℕ) (s : List ℕ) (i j : ℕ) → IsUtf8 s → NoCharPasses (λ d. d == c) (take i s) → HasCharAt c s i j → IsCharBoundary s i →
    span (is_other c) (chars s) ≡ (chars (take i s), chars (drop i s))
literal_found c s i j u none at cut =
    let v = IsUtf8-take s i u cut in
    let w = IsUtf8-drop s i u cut in
    let first : chars (drop i s) ≡ c ∷ chars (drop j s) = chars_past_char (drop i s) (drop j s) c w at.split in
    span_only (is_other c) (chars s) (chars (take i s)) (chars (drop i s)) (record {
      whole = ap chars (sym (take-append-drop i s)) ∙ chars-append (take i s) (drop i s) v;
      all = others_in c (take i s) v none;
      longest = subst (StopsAt (is_other c)) (sym first) (not_from_true (c == c) (eq-eqb c c refl));
    })

pub literal_missing : (c : ℕ) (s : List ℕ) → IsUtf8 s → NoCharPasses (λ d. d == c) s → span (is_other c) (chars s) ≡ (chars s, [])
literal_missing c s u none = span_only (is_other c) (chars s) (chars s) [] (record { whole = sym (append-nil (chars s)); all = others_in c s u none; longest = tt })
