-- The spans of the groups of a match, from their start and end offsets.
use Rattle.std.specs.Prelude.{◌≡◌, ◌<◌, ◌≤◌, ℕ, List, Some, None, length, slice_index_or, IsCharBoundary}
use Rattle.fancy_regex.specs.Ways.{Pairs}
use Rattle.fancy_regex.specs.RunInputs.{group_slots}

-- These are the spans of groups with these start and end offsets. Each span lies between character boundaries, and the text is
-- so short that no offset in it equals the one that marks a group that did not participate.
pub record AreGroupSpans (text slots : List ℕ) (spans : Pairs) : Type 0 where
  pub places_are : slots ≡ group_slots spans
  pub cut : (k a b : ℕ) → slice_index_or spans k None ≡ Some (a, b) → IsCharBoundary text a × IsCharBoundary text b × (a ≤ b)
  pub fits : length text < 18446744073709551615
