-- The members of a set that is built of patterns.
use Rattle.std.specs.Prelude.{◌≡◌, ⊤, ℕ, List, [], ◌∷◌, take, Some, slice_get, string_bytes}
use Rattle.fancy_regex_meaning.specs.WayLaws.{Each}
use Rattle.fancy_regex_search.specs.Caps.{MetaKeepsCap}
use Rattle.fancy_regex_search.specs.Refusals.{Accepts, Refuses}
use Rattle.fancy_regex_search.specs.RegexOptions.{RegexOptions}
use Rattle.fancy_regex_search.specs.Error.{Error}
use Rattle.fancy_regex_search.specs.Error.TheVariants as told
use Rattle.fancy_regex_search.specs.declared.regex.Regex.{Regex}

-- The regex is built of the pattern with these options.
pub record IsBuiltOf (o : RegexOptions) (pattern : List ℕ) (regex : Regex) : Type 0 where
  pub pattern_is : string_bytes regex.meta.pattern ≡ pattern
  pub options_are : regex.meta.options ≡ o
  pub cap : MetaKeepsCap regex.meta
  pub accepted : Accepts o pattern

-- each of the regexes is built of the pattern with its number
abbrev pub AreBuiltOf : RegexOptions → List (List ℕ) → List Regex → Type 0
AreBuiltOf o [] [] = ⊤
AreBuiltOf o [] (r ∷ rs) = ⊥
AreBuiltOf o (p ∷ ps) [] = ⊥
AreBuiltOf o (p ∷ ps) (r ∷ rs) = IsBuiltOf o p r × AreBuiltOf o ps rs

-- the error is one of building the pattern with some number, and those before it are accepted
abbrev pub IsErrorOfPattern : RegexOptions → List (List ℕ) → Error → Type 0
IsErrorOfPattern o ps e = (i : ℕ) × (p : List ℕ) × (slice_get ps i ≡ Some p) × Each (Accepts o) (take i ps) × Refuses o p e

-- `Memory`, or the error of the first pattern that is refused
abbrev pub RefusesPatterns : RegexOptions → List (List ℕ) → Error → Type 0
RefusesPatterns o ps told.Memory = ⊤
RefusesPatterns o ps e = IsErrorOfPattern o ps e
