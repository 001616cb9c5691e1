-- Reachability in a directed graph, given by the successors of each vertex.
use Rattle.std.specs.Prelude.{ℕ, zero, suc, Bool, List, [], ◌++◌, length, map, slice_get, Vec, Option, Some, None, ◌==◌}
use Rattle.std.specs.Global.{Global}
use Rattle.std.specs.List.{flat_map, list_any}

-- the edges as lists
abbrev pub rows : List (Vec ℕ Global) → List (List ℕ)
rows = map (λ v. v.items)

abbrev pub has : List ℕ → ℕ → Bool
has ks k = list_any (λ j. j == k) ks

abbrev pub or_none : Option (List ℕ) → List ℕ
or_none None = []
or_none (Some ks) = ks

-- the successors of vertex k
abbrev pub following : List (List ℕ) → ℕ → List ℕ
following edges k = or_none (slice_get edges k)

-- the vertices that a walk of at most n edges from the starts visits
unfoldable pub through : List (List ℕ) → ℕ → List ℕ → List ℕ
through edges zero starts = starts
through edges (suc n) starts = starts ++ flat_map (λ k. through edges n (following edges k)) starts

-- the vertex can be visited from the starts
abbrev pub is_reached : List (List ℕ) → List ℕ → ℕ → Bool
is_reached edges starts k = has (through edges (length edges) starts) k
