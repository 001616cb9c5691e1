-- What the first bytes of two texts tell.
use Rattle.std.specs.Prelude.{◌≡◌, ℕ, ◌<◌, ◌==◌, false, List, length, slice_index}

-- both have a first byte, and these differ
abbrev pub BeginOtherwise : List ℕ → List ℕ → Type 0
BeginOtherwise wanted text = (0 < length wanted) × (0 < length text) × ((slice_index wanted 0 == slice_index text 0) ≡ false)
