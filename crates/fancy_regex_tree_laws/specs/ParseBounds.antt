-- Bounds on the size and depth of the tree of a pattern, and on the byte positions of parse errors and of constructs.
use Rattle.std.specs.Prelude.{◌≡◌, ◌≤◌, ◌+◌, ◌*◌, Ok, Err}
use Rattle.fancy_regex_text.specs.Text.{Text, bytes}
use Rattle.fancy_regex_tree.specs.Bounds.{nodes, depth}
use Rattle.fancy_regex_tree.specs.Numbering.{PositionedFault}
use Rattle.fancy_regex_tree.specs.Parse.{Options, Parsed, parse}
use Rattle.fancy_regex_tree.specs.Positions.{HasPositionsWithin}

-- The tree of a pattern of n bytes has at most 2n + 1 nodes, and no path in it has more than 832.
abbrev pub TreesAreBounded : Type 0
TreesAreBounded = (o : Options) (t : Text) (found : Parsed) → parse o t ≡ Ok found → (nodes found.tree ≤ 2 * bytes t + 1) × (depth found.tree ≤ 832)

-- The byte position of a parse error is inside the pattern or at its end.
abbrev pub ParseErrorsAreInside : Type 0
ParseErrorsAreInside = (o : Options) (t : Text) (r : PositionedFault) → parse o t ≡ Err r → r.position ≤ bytes t

-- The byte positions of groups, references, calls and conditions, before references are resolved, are inside the pattern or at its end.
abbrev pub PositionsAreInside : Type 0
PositionsAreInside = (o : Options) (t : Text) (found : Parsed) → parse o t ≡ Ok found → HasPositionsWithin (bytes t) found.unresolved
