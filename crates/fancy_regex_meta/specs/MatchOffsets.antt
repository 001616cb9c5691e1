-- Start and end offsets of a match in a text.
use Rattle.std.specs.Prelude.{◌≡◌, ℕ, ◌≤◌, List, slice_index, IsCharBoundary}
use Rattle.fancy_regex_meta.specs.declared.found.FoundMatch.{FoundMatch}
use Rattle.fancy_regex_meta.specs.declared.found.MatchDetail.{MatchDetail}
use Rattle.fancy_regex_meta.specs.declared.found.MatchDetail.TheVariants.{Span, Groups}

-- Both offsets are character boundaries of the text, in order.
pub record AreBoundaries (text : List ℕ) (start end : ℕ) : Type 0 where
  pub ordered : start ≤ end
  pub starts : IsCharBoundary text start
  pub ends : IsCharBoundary text end

-- Where the groups of a match are wanted, the second of their offsets is its end.
abbrev pub EndsSecond : MatchDetail → FoundMatch → Type 0
EndsSecond Span x = Unit {0}
EndsSecond Groups x = slice_index x.groups.items 1 ≡ x.end

-- What was found lies between the first start of the search and the end of its range.
pub record IsMatchWithin (wanted : MatchDetail) (text : List ℕ) (first end : ℕ) (x : FoundMatch) : Type 0 where
  pub after : first ≤ x.start
  pub cuts : AreBoundaries text x.start x.end
  pub inside : x.end ≤ end
  pub second : EndsSecond wanted x
