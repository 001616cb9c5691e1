-- The spans of the capture groups of a match.
use Rattle.std.specs.Prelude.{◌≡◌, ℕ, ◌+◌, ◌*◌, ◌<◌, List, length, slice_index, Option, Some, None, MatchOption}
use Rattle.fancy_regex_meaning.specs.Searches.{Match}
use Rattle.fancy_regex_meaning.specs.Groups.{Pattern}
use Rattle.fancy_regex_class.specs.RunInputs.{match_slots}
use Rattle.fancy_regex_meta.specs.MatchOffsets.{AreBoundaries}
use Rattle.fancy_regex_meta.specs.FoundParts.{wanted_groups}
use Rattle.fancy_regex_meta.specs.declared.found.FoundMatch.{FoundMatch}
use Rattle.fancy_regex_meta.specs.declared.found.MatchDetail.{MatchDetail}

-- The group participated in the match: it has offsets, which are character boundaries in order.
pub record Participated (text : List ℕ) (slots : List ℕ) (k : ℕ) : Type 0 where
  pub there : 2 * k + 1 < length slots
  pub cuts : AreBoundaries text (slice_index slots (2 * k)) (slice_index slots (2 * k + 1))

-- This is the span of the group, from the start and end offsets of each group; `None` exactly if it did not participate.
abbrev pub IsSpanAt : List ℕ → List ℕ → ℕ → Option (ℕ × ℕ) → Type 0
IsSpanAt text slots k None = Participated text slots k → ⊥
IsSpanAt text slots k (Some span) = Participated text slots k × (span ≡ (slice_index slots (2 * k), slice_index slots (2 * k + 1)))

-- the span of a match
abbrev pub span_in : Match → ℕ × ℕ
span_in m = (m.start, m.end)

-- these are the start and end offsets of the groups of a match
abbrev pub AreGroupsOf : Pattern → List ℕ → Match → Type 0
AreGroupsOf pattern slots m = slots ≡ match_slots pattern m

-- This is what was found of a match: its span, and the offsets of its groups where they are wanted.
abbrev pub IsFoundOf : MatchDetail → Pattern → FoundMatch → Match → Type 0
IsFoundOf wanted pattern x m = (x.start ≡ m.start) × (x.end ≡ m.end) × (x.groups.items ≡ wanted_groups wanted pattern m)

-- A value for the wanted match, or `None` if there is no match.
abbrev pub IsResultFor : {A : Type 0} → (A → Match → Type 0) → Option A → Option Match → Type 0
IsResultFor Shows found wanted = MatchOption found (wanted ≡ None) (λ c. (m : Match) × (wanted ≡ Some m) × Shows c m)
