-- The line that a pattern is printed as.
use Rattle.std.specs.Prelude.{◌≡◌, ℕ, List, ◌++◌, Option, Ok, codes, option_map, encode_utf8_all}
use Rattle.fancy_regex.specs.Parse.{Parsed}
use Rattle.fancy_regex.specs.Patterns.{read_as}
use Rattle.fancy_regex.specs.Reprinted.{reprinted}
use Rattle.fancy_regex.specs.RegexOptions.{RegexOptions}

-- the text is a pattern, and this is its printed text and a newline; None where it does not reprint
pub record IsPrinted (o : RegexOptions) (pattern : List ℕ) (line : Option (List ℕ)) : Type 0 where
  pub found : Parsed
  pub parsed : read_as o pattern ≡ Ok found
  pub printed : line ≡ option_map (λ t. encode_utf8_all t ++ codes "\n") (reprinted found.tree)
