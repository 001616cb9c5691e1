-- The matches of an iteration over a whole text are those of the pattern that was compiled.
use Rattle.std.proofs.Common.{◌≡◌, ℕ, List, refl}
use Rattle.std.specs.Prelude.{string_bytes}
use Rattle.fancy_regex_input.specs.SearchInputs.{whole}
use Rattle.fancy_regex_search.specs.MetaRegex.{MetaRegex}
use Rattle.fancy_regex_search.specs.RemainingMatches.{all_matches}
use Rattle.fancy_regex.specs.TextMatches.{matches_in}

pub all_are : (s : MetaRegex) (text : List ℕ) → all_matches s text (whole text) ≡ matches_in s.options (string_bytes s.pattern) text
unfolding matches_in
all_are s text = refl
