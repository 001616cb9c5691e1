-- A bound on the weight of the tree of a pattern.
use Rattle.std.specs.Prelude.{◌≡◌, ◌≤◌, ◌+◌, ◌*◌, Ok, List}
use Rattle.fancy_regex_text.specs.Text.{Text, bytes}
use Rattle.fancy_regex_tree.specs.Tree.{Tree}
use Rattle.fancy_regex_tree.specs.Parse.{Options, Parsed, parse}
use Rattle.fancy_regex_meaning.specs.Sizes.{tree_weight}
use Rattle.fancy_regex_tree_laws.specs.UncountedRepeats.{HasNoCountedRepeats}

-- The tree of a pattern of n bytes has weight at most 4(n + 1), if its quantifiers are `?`, `*` and `+` and none without an upper bound
-- applies to an expression that can match the empty string.
abbrev pub WeightsAreBounded : Type 0
WeightsAreBounded = (o : Options) (t : Text) (found : Parsed) → parse o t ≡ Ok found → (groups : List Tree) → HasNoCountedRepeats groups found.tree →
    tree_weight groups found.tree ≤ 4 * (bytes t + 1)
