-- The first match of a search over its starts.
use Rattle.std.specs.Prelude.{ℕ, ◌+◌, Bool, List, [], ◌∷◌, Option, Some, None, if◌then◌else◌}
use Rattle.fancy_regex_meaning.specs.Positions.{boundaries}
use Rattle.fancy_regex_linear.specs.Meaning.{Spot}

-- the start of a match, and its end with the slots
pub record FoundMatch : Type 0 where
  pub start : ℕ
  pub way : Spot

-- the match at the first of these starts that has one
unfoldable pub earliest : (ℕ → Option Spot) → List ℕ → Option FoundMatch
earliest f [] = None
earliest f (p ∷ ps) = elim (f p) [ None ↦ earliest f ps | Some w ↦ Some (record { start = p; way = w }) ]

-- how many of these starts a search attempts: up to the first that has a match
unfoldable pub attempted : {A : Type 0} → (ℕ → Option A) → List ℕ → ℕ
attempted f [] = 0
attempted f (p ∷ ps) = 1 + elim (f p) [ None ↦ attempted f ps | Some w ↦ 0 ]

-- the starts of a search, from this one on
abbrev pub places : List ℕ → Bool → ℕ → ℕ → List ℕ
places text anchored first stop = if anchored then first ∷ [] else boundaries text first stop

-- a start and an end, with the slots at the end
abbrev pub found_of_span : Option (ℕ × ℕ) → List ℕ → Option FoundMatch
found_of_span None slots = None
found_of_span (Some s) slots = Some (record { start = s.0; way = record { at = s.1; slots = slots } })

-- the same, where there is one to go on from
abbrev pub places_from : List ℕ → Bool → Option ℕ → ℕ → List ℕ
places_from text anchored None stop = []
places_from text anchored (Some first) stop = places text anchored first stop

-- the start and the end of it
abbrev pub span_of_found : FoundMatch → ℕ × ℕ
span_of_found h = (h.start, h.way.at)
