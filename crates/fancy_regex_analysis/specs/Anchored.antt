-- Trees that have a way at the start of the text alone, or where the search continues.
use Rattle.std.specs.Prelude.{◌≡◌, ℕ, ◌⊎◌, Bool, true, false, ◌&&◌, List, Some, nat_lt}
use Rattle.fancy_regex_tree.specs.Tree.{Tree, Trees, assertion, concat, alt, group, look_around, repeat, atomic_group, continue, no_trees, more_trees}
use Rattle.fancy_regex_tree.specs.declared.expr.Assertion.TheVariants.{StartText}
use Rattle.fancy_regex_tree.specs.declared.expr.LookAround.TheVariants.{LookAhead}
use Rattle.fancy_regex_meaning.specs.Ways.{Setting, MatchState, is_none_of, ways}

-- what is entered first is an assertion of one of these places
unfoldable mutual
  pub begins_anchored : Tree → Bool
  begins_anchored (assertion StartText) = true
  begins_anchored continue = true
  begins_anchored (concat no_trees) = false
  begins_anchored (concat (more_trees t ts)) = begins_anchored t
  begins_anchored (alt no_trees) = false
  begins_anchored (alt (more_trees t ts)) = begins_anchored t && all_begin_anchored ts
  begins_anchored (group t) = begins_anchored t
  begins_anchored (atomic_group t) = begins_anchored t
  begins_anchored (look_around t LookAhead) = begins_anchored t
  begins_anchored (repeat t lo hi greedy) = nat_lt 0 lo && begins_anchored t
  begins_anchored t = false

  pub all_begin_anchored : Trees → Bool
  all_begin_anchored no_trees = true
  all_begin_anchored (more_trees t ts) = begins_anchored t && all_begin_anchored ts

-- a place at the start of the text, or where the search continues
abbrev pub IsAnchor : Setting → ℕ → Type 0
IsAnchor s p = (p ≡ 0) ⊎ (s.continue_at ≡ Some p)

-- wherever the tree has a way, in whatever pattern it stands
abbrev pub IsAnchored : Tree → Type 0
IsAnchored t = (s : Setting) (groups : List Tree) (n : ℕ) (w : MatchState) → is_none_of (ways s groups n t w) ≡ false → IsAnchor s w.position
