-- Quantifiers and their suffixes.
use Rattle.std.specs.Prelude.{ℕ, Bool, true, false, not, ◌&&◌, nat_lt, [], ◌∷◌, Option, Some, None, option_and_then, option_map, Ok, if◌then◌else◌, codes}
use Rattle.fancy_regex_text.specs.Text.{Text, ◌∈◌, strip_prefix, unbounded}
use Rattle.fancy_regex_text.specs.ParseFault.{ParseOutcome, ◌>>=◌}
use Rattle.fancy_regex_text.specs.Layout.{next_token, skip}
use Rattle.fancy_regex_text.specs.Names.{digits}
use Rattle.fancy_regex_lex.specs.declared.token.Quantifier.{Quantifier}
use Rattle.fancy_regex_lex.specs.declared.token.QuantifierSuffix.{QuantifierSuffix}

-- layout, decimal digits and layout again: the number of the digits, None if there are none, and the rest; None if the text
-- ends inside a comment
unfoldable pub spaced_digits : Bool → Text → Option (Option ℕ × Text)
spaced_digits verbose t =
    option_and_then (λ here. option_map (λ rest. ((digits here).0, rest)) (next_token verbose (digits here).1)) (next_token verbose t)

-- the quantifier `{lo,hi}`; None if a bound is not less than `usize::MAX`
unfoldable pub bounds : ℕ → ℕ → Option Quantifier
bounds lo hi = if nat_lt lo unbounded && nat_lt hi unbounded then Some (record { lo = lo; hi = hi; braces = true }) else None

-- the quantifier `{lo,}`; None if the bound is not less than `usize::MAX`
unfoldable pub no_upper_bound : ℕ → Option Quantifier
no_upper_bound lo = if nat_lt lo unbounded then Some (record { lo = lo; hi = unbounded; braces = true }) else None

-- `{n}`
unfoldable pub exactly : Option ℕ → Option Quantifier
exactly None = None
exactly (Some n) = bounds n n

-- `{n,}`, `{,m}` or `{n,m}`, by the numbers before and after the comma
unfoldable pub range : Option ℕ → Option ℕ → Option Quantifier
range None None = None
range (Some n) None = no_upper_bound n
range None (Some m) = bounds 0 m
range (Some n) (Some m) = bounds n m

-- bounds in braces from after the comma, by the number before it
unfoldable pub after_comma : Bool → Option ℕ → Text → Option (Quantifier × Text)
after_comma verbose first t =
    option_and_then (λ found. option_and_then (λ rest. option_map (λ q. (q, rest)) (range first found.0)) (strip_prefix (codes "}") found.1))
    (spaced_digits verbose t)

-- bounds in braces from after the first number, which may be missing
unfoldable pub after_number : Bool → Option ℕ → Text → Option (Quantifier × Text)
after_number verbose first [] = None
after_number verbose first (c ∷ t) =
    if c ∈ "}" then option_map (λ q. (q, t)) (exactly first)
    else if c ∈ "," then after_comma verbose first t
    else None

-- bounds in braces from after the `{`: `n`, `n,`, `n,m` or `,m`
unfoldable pub counted : Bool → Text → Option (Quantifier × Text)
counted verbose t = option_and_then (λ found. after_number verbose found.0 found.1) (spaced_digits verbose t)

-- a quantifier of one character
abbrev pub sign : ℕ → ℕ → Quantifier
sign lo hi = record { lo = lo; hi = hi; braces = false }

-- the quantifier that the text starts with, and the rest, which may start with its suffix; None if there is no quantifier
unfoldable pub leading_quantifier : Bool → Text → Option (Quantifier × Text)
leading_quantifier verbose [] = None
leading_quantifier verbose (c ∷ t) =
    if c ∈ "?" then Some (sign 0 1, t)
    else if c ∈ "*" then Some (sign 0 unbounded, t)
    else if c ∈ "+" then Some (sign 1 unbounded, t)
    else if c ∈ "{" then counted verbose t
    else None

-- whether the text starts with `?`, and the rest after it
abbrev pub lazy_suffix : Text → Bool × Text
lazy_suffix t = elim (strip_prefix (codes "?") t) [ Some rest ↦ (true, rest) | None ↦ (false, t) ]

-- whether the text starts with `+`, if one is allowed, and the rest after it
abbrev pub possessive_suffix : Bool → Text → Bool × Text
possessive_suffix may t = elim (strip_prefix (codes "+") t) [ Some rest ↦ (if may then (true, rest) else (false, t)) | None ↦ (false, t) ]

-- the suffix of a quantifier, after layout, and the rest; in Oniguruma mode a `+` after braces is a quantifier of its own
unfoldable pub quantifier_suffix : Bool → Bool → Bool → Text → ParseOutcome (QuantifierSuffix × Text)
quantifier_suffix oniguruma verbose braces t = do
  here ← skip verbose t
  let (lazy, after) = lazy_suffix here
  let (possessive, rest) = possessive_suffix (not (oniguruma && braces)) after
  Ok (record { lazy = lazy; possessive = possessive }, rest)

-- the greatest number of quantifiers of one atom
abbrev pub most_quantifiers : Bool → ℕ
most_quantifiers oniguruma = if oniguruma then 5 else 1
