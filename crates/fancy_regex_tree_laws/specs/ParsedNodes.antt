-- What the nodes of a parsed tree are like.
use Rattle.std.specs.Prelude.{◌≡◌, Bool, true, false, Ok}
use Rattle.std.specs.List.{All}
use Rattle.fancy_regex_tree.specs.Tree.{Tree, Text, literal, alt, no_trees}
use Rattle.fancy_regex_tree.specs.Traversal.{nodes}
use Rattle.fancy_regex_tree.specs.Printable.{is_one_character}
use Rattle.fancy_regex_tree.specs.Parse.{Options, Parsed, parse}

-- an alternation has a branch, and a literal is one character
abbrev pub is_parsed_node : Tree → Bool
is_parsed_node (alt no_trees) = false
is_parsed_node (literal val casei) = is_one_character val
is_parsed_node t = true

-- so is each node of a parsed tree
abbrev pub NodesAreParsed : Type 0
NodesAreParsed = (o : Options) (t : Text) (found : Parsed) → parse o t ≡ Ok found → All (λ node. is_parsed_node node ≡ true) (nodes found.tree)
