-- The configuration of a search as contracts see it.
use Rattle.std.specs.Prelude.{ℕ, Bool}

-- What the setters of a search's input set, in bytes from the start of the haystack.
pub record Config : Type 0 where
  -- where the search starts, unless the range starts later
  pub start : ℕ
  -- the range in which the whole match has to lie
  pub range_start : ℕ
  pub range_end : ℕ
  -- the match has to start at the start of the search
  pub anchored : Bool
  -- `^` and `\A` match at the start of the haystack
  pub start_text : Bool
  -- `$` and `\z` match at the end of the haystack
  pub end_text : Bool
  -- `\G` matches at the start of the search
  pub continues : Bool
