-- The calls that are open.
use Rattle.std.specs.Prelude.{◌≡◌, ℕ, ◌+◌, List, [], ◌∷◌, ◌++◌, count_by, slice_index_or, ◌==◌, if◌then◌else◌}
use Rattle.fancy_regex_meaning.specs.Ways.{max_open_calls_per_group}

-- their groups, that of the innermost last
pub record OpenGroups : Type 0 where
  pub items : List ℕ

-- how many of them are calls of this group
abbrev pub calls_of : ℕ → List ℕ → ℕ
calls_of k groups = count_by (λ j. j == k) groups

-- The list has their number for each group; there are none of a group behind its end.
abbrev pub AreCounts : List ℕ → List ℕ → Type 0
AreCounts counts groups = (k : ℕ) → slice_index_or counts k 0 ≡ calls_of k groups

-- the group, where so many calls of it are as many as may be open
abbrev pub if_full : ℕ → ℕ → List ℕ
if_full k n = if n == max_open_calls_per_group then k ∷ [] else []

-- the groups of which as many calls are open as may be, in the order in which they reach that number: after calls of the first groups, those of
-- the others
abbrev pub full_after : List ℕ → List ℕ → List ℕ
full_after before [] = []
full_after before (k ∷ ks) = if_full k (calls_of k before + 1) ++ full_after (k ∷ before) ks

-- and of all
abbrev pub full_groups : List ℕ → List ℕ
full_groups groups = full_after [] groups
