-- A search over starts.
use Rattle.std.specs.Prelude.{◌≡◌, ℕ, ◌+◌, ◌-◌, ◌<◌, ◌≤◌, List, [], ◌∷◌, length, Option, Some, None, IsCharBoundary, IsUtf8}
use Rattle.fancy_regex_meaning.specs.Positions.{boundaries}
use Rattle.fancy_regex_parts.specs.Frames.{IsPlace}

-- the first of these starts that has a way, and where that ends
unfoldable pub earliest : (ℕ → Option ℕ) → List ℕ → Option (ℕ × ℕ)
earliest f [] = None
earliest f (p ∷ ps) = elim (f p) [ None ↦ earliest f ps | Some e ↦ Some (p, e) ]

-- how many of these starts are asked: up to the first that has a way
unfoldable pub attempted : (ℕ → Option ℕ) → List ℕ → ℕ
attempted f [] = 0
attempted f (p ∷ ps) = 1 + elim (f p) [ None ↦ attempted f ps | Some e ↦ 0 ]

-- the starts of a search: places of a text of whole characters, from this one on up to the last; `lowest` is the least byte offset that
-- a search from the first is asked about
pub record AreStarts (text : List ℕ) (base from lowest last : ℕ) : Type 0 where
  pub utf8 : IsUtf8 text
  pub boundary : IsCharBoundary text from
  pub low : base ≤ lowest
  pub order : from ≤ last
  pub inside : last ≤ length text

-- the start after this one, of those up to the last
pub record IsNext (text : List ℕ) (last at next : ℕ) : Type 0 where
  pub later : at < next
  pub early : next ≤ last
  pub boundary : IsCharBoundary text next
  pub starts : boundaries text at last ≡ at ∷ boundaries text next last

-- the start after this one, or that there is none
abbrev pub IsAfter : List ℕ → ℕ → ℕ → Option ℕ → Type 0
IsAfter text last at None = boundaries text at last ≡ at ∷ []
IsAfter text last at (Some next) = IsNext text last at next

-- how many of these starts are known to have no way, where this was found
abbrev pub failed_starts : List ℕ → ℕ → ℕ → Option (ℕ × ℕ) → ℕ
failed_starts text from last None = length (boundaries text from last)
failed_starts text from last (Some (start, end)) = length (boundaries text from last) - length (boundaries text start last)

-- how many byte offsets there are from the first start to the last that is asked, where this was found
abbrev pub tried : ℕ → ℕ → Option (ℕ × ℕ) → ℕ
tried from last None = last - from + 1
tried from last (Some (start, end)) = start - from + 1
