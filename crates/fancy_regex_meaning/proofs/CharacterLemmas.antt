-- How many characters stand between two places.
use Rattle.std.proofs.Common.{◌≡◌, ℕ, suc, ◌+◌, ◌-◌, ◌≤◌, List, length, drop, Some, ap, ◌∙◌, arith, length-drop, length-take}
use Rattle.std.specs.Prelude.{slice_range, chars}
use Rattle.std.specs.Char.{len_utf8}
use Rattle.std.specs.Str.{IsUtf8, IsCharBoundary}
use Rattle.std.proofs.lemmas.Str.{IsUtf8-between, IsUtf8-drop, chars-append, chars_past_char, encodes-chars, length-le-encodes}
use Rattle.std.proofs.lemmas.List.{length-append}
use Rattle.std.proofs.lemmas.List.Folds.{drop_split}
use Rattle.regex_hir.specs.Text.{char_at}
use Rattle.regex_hir.proofs.TextLemmas.{char_at_parts}
use Rattle.fancy_regex_meaning.specs.SizeLaws.{characters_between}

module _ (text : List ℕ) (utf8 : IsUtf8 text) where
  -- the characters from a place on
  abbrev left : ℕ → ℕ
  left p = length (chars (drop p text))

  left_from : (p q : ℕ) → p ≤ q → IsCharBoundary text p → IsCharBoundary text q → left p ≡ characters_between text p q + left q
  left_from p q le hp hq =
      ap (λ bs. length (chars bs)) (drop_split text p q le)
      ∙ ap length (chars-append (slice_range text p q) (drop q text) (IsUtf8-between text p q utf8 le hp hq))
      ∙ length-append (chars (slice_range text p q)) (chars (drop q text))

  pub between_splits : (p q r : ℕ) → p ≤ q → q ≤ r → IsCharBoundary text p → IsCharBoundary text q → IsCharBoundary text r →
      characters_between text p r ≡ characters_between text p q + characters_between text q r
  between_splits p q r le after hp hq hr =
      omega (arith, left_from p q le hp hq, left_from q r after hq hr, left_from p r (omega arith) hp hr)

  pub between_same : (p : ℕ) → IsCharBoundary text p → characters_between text p p ≡ 0
  between_same p h = omega (arith, left_from p p (omega arith) h h)

  pub between_char : (p c : ℕ) → IsCharBoundary text p → IsCharBoundary text (p + len_utf8 c) → char_at text p ≡ Some c →
      characters_between text p (p + len_utf8 c) ≡ 1
  between_char p c h k e =
      let step : left p ≡ suc (left (p + len_utf8 c)) =
      ap length (chars_past_char (drop p text) (drop (p + len_utf8 c) text) c (IsUtf8-drop text p utf8 h) (char_at_parts text p c e).1) in
      omega (arith, step, left_from p (p + len_utf8 c) (omega arith) h k)

  pub between_fits : (p q : ℕ) → p ≤ q → IsCharBoundary text p → IsCharBoundary text q → characters_between text p q ≤ q - p
  between_fits p q le hp hq =
      let bytes = encodes-chars (slice_range text p q) (IsUtf8-between text p q utf8 le hp hq) in
      omega (
        arith,
        length-le-encodes (chars (slice_range text p q)),
        ap length bytes,
        length-take (q - p) (drop p text),
        length-drop p text,
      )
