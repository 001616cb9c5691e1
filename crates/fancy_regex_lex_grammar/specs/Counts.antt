-- Quantifiers, and the `?` (lazy) and `+` (possessive) marks after them.
use Rattle.std.specs.Prelude.{◌≡◌, ◌≢◌, ◌<◌, ℕ, Bool, true, false, ◌∷◌, Some}
use Rattle.fancy_regex_text.specs.Text.{Text, unbounded}
use Rattle.fancy_regex_lex.specs.Quantifiers.{sign, leading_quantifier, quantifier_suffix}
use Rattle.fancy_regex_lex.specs.declared.token.Quantifier.{Quantifier}
use Rattle.fancy_regex_lex.specs.declared.token.QuantifierSuffix.{QuantifierSuffix}
use Rattle.fancy_regex_lex_grammar.specs.Exact.{FindsExactly, ReadsExactly}
use Rattle.fancy_regex_lex_grammar.specs.Layout.{IsSkipped, LayoutFails}
use Rattle.fancy_regex_lex_grammar.specs.Names.{IsLeadingNumber}

-- a quantifier in braces with these bounds
abbrev pub in_braces : ℕ → ℕ → Quantifier
in_braces lo hi = record { lo = lo; hi = hi; braces = true }

module _ (verbose : Bool) where
  -- a number with layout around it
  pub record IsSpacedNumber (t : Text) (n : ℕ) (rest : Text) : Type 0 where
    pub digits : Text
    pub after : Text
    pub layout_before : IsSkipped verbose t digits
    pub number : IsLeadingNumber digits (Some n) after
    pub layout_after : IsSkipped verbose after rest

  -- the text after `{`: the bounds, and the rest after `}`
  pub data IsBracedQuantifier : Text → Quantifier → Text → Type 0 where
    exactly : {t rest : Text} {n : ℕ} → IsSpacedNumber t n (0x7D ∷ rest) → n < unbounded → IsBracedQuantifier t (in_braces n n) rest
    at_least : {t u rest : Text} {n : ℕ} → IsSpacedNumber t n (0x2C ∷ u) → IsSkipped verbose u (0x7D ∷ rest) → n < unbounded →
        IsBracedQuantifier t (in_braces n unbounded) rest
    at_most : {t u rest : Text} {m : ℕ} → IsSkipped verbose t (0x2C ∷ u) → IsSpacedNumber u m (0x7D ∷ rest) → m < unbounded →
        IsBracedQuantifier t (in_braces 0 m) rest
    between : {t u rest : Text} {n m : ℕ} → IsSpacedNumber t n (0x2C ∷ u) → IsSpacedNumber u m (0x7D ∷ rest) → n < unbounded → m < unbounded →
        IsBracedQuantifier t (in_braces n m) rest

  -- a quantifier, and the rest after it
  pub data IsQuantifier : Text → Quantifier → Text → Type 0 where
    optional : {t : Text} → IsQuantifier (0x3F ∷ t) (sign 0 1) t
    any_number : {t : Text} → IsQuantifier (0x2A ∷ t) (sign 0 unbounded) t
    one_or_more : {t : Text} → IsQuantifier (0x2B ∷ t) (sign 1 unbounded) t
    counted : {t rest : Text} {count : Quantifier} → IsBracedQuantifier t count rest → IsQuantifier (0x7B ∷ t) count rest

-- A `+` after a quantifier makes it possessive; but after braces in Oniguruma mode it is a quantifier of its own.
pub data PlusIsMark (oniguruma braces : Bool) : Type 0 where
  in_plain_mode : oniguruma ≡ false → PlusIsMark oniguruma braces
  after_sign : braces ≡ false → PlusIsMark oniguruma braces

-- the text does not begin with a possessive mark `+`
abbrev pub NoPlus : Bool → Bool → Text → Type 0
NoPlus oniguruma braces t = (rest : Text) → t ≡ 0x2B ∷ rest → PlusIsMark oniguruma braces → ⊥

-- the text does not begin with a lazy mark `?`
abbrev pub NoQuestionMark : Text → Type 0
NoQuestionMark t = (rest : Text) → t ≢ 0x3F ∷ rest

module _ (oniguruma verbose braces : Bool) where
  -- layout and the marks after it, and the rest
  pub data IsMarks : Text → QuantifierSuffix → Text → Type 0 where
    no_marks : {t rest : Text} → IsSkipped verbose t rest → NoQuestionMark rest → NoPlus oniguruma braces rest →
        IsMarks t (record { lazy = false; possessive = false }) rest
    lazy : {t rest : Text} → IsSkipped verbose t (0x3F ∷ rest) → NoPlus oniguruma braces rest →
        IsMarks t (record { lazy = true; possessive = false }) rest
    possessive : {t rest : Text} → IsSkipped verbose t (0x2B ∷ rest) → PlusIsMark oniguruma braces →
        IsMarks t (record { lazy = false; possessive = true }) rest
    lazy_and_possessive : {t rest : Text} → IsSkipped verbose t (0x3F ∷ 0x2B ∷ rest) → PlusIsMark oniguruma braces →
        IsMarks t (record { lazy = true; possessive = true }) rest

abbrev pub QuantifierTokensAreExact : Type 0
QuantifierTokensAreExact = (verbose : Bool) (t : Text) → FindsExactly (leading_quantifier verbose t) (λ (r : Quantifier × Text). IsQuantifier verbose t r.0 r.1)

abbrev pub MarksAreExact : Type 0
MarksAreExact = (oniguruma verbose braces : Bool) (t : Text) →
    ReadsExactly (quantifier_suffix oniguruma verbose braces t) (λ (r : QuantifierSuffix × Text). IsMarks oniguruma verbose braces t r.0 r.1) (LayoutFails verbose t)
