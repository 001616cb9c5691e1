-- Printed texts in steps.
use Rattle.std.proofs.Common.{◌≡◌, ◌++◌, ◌<◌, ◌^◌, [], ◌∷◌, ℕ, refl, ap, sym, ◌∙◌, append_assoc, append-nil, chars, decimal, None}
use Rattle.std.proofs.lemmas.Str.{chars-IsAscii}
use Rattle.std.proofs.lemmas.Fmt.{IsAscii-decimal}
use Rattle.std.proofs.lemmas.Option.{none-some}
use Rattle.fancy_regex_text.specs.Text.{Text, uncons}
use Rattle.fancy_regex_tree.specs.Printed.{escaped_char, escaped}

pub chars-decimal : (n : ℕ) → n < 2 ^ 64 → chars (decimal n) ≡ decimal n
chars-decimal n h = chars-IsAscii (decimal n) (IsAscii-decimal n h)

pub nothing_left : (t : Text) → None ≡ uncons t → t ≡ []
nothing_left [] h = refl
nothing_left (c ∷ t) h = absurd (none-some _ h)

-- one character more is printed
pub escaped_more : (before after whole left rest : Text) (c : ℕ) → before ++ escaped left ≡ whole → left ≡ c ∷ rest →
    after ≡ before ++ escaped_char c → after ++ escaped rest ≡ whole
unfolding escaped
escaped_more before after whole left rest c so_far first now =
    ap (λ t. t ++ escaped rest) now ∙ append_assoc before (escaped_char c) (escaped rest) ∙ ap (λ t. before ++ escaped t) (sym first) ∙ so_far

pub escaped_end : (before whole left : Text) → before ++ escaped left ≡ whole → left ≡ [] → before ≡ whole
unfolding escaped
escaped_end before whole left so_far none = sym (append-nil before) ∙ ap (λ t. before ++ escaped t) (sym none) ∙ so_far
