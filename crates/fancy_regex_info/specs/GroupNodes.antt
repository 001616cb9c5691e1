-- What a single node adds to the lists of a tree's groups and calls.
use Rattle.std.specs.Prelude.{ℕ, Option, Some, None}
use Rattle.fancy_regex_tree.specs.Tree.{Tree, group, subroutine_call}

-- the body of a capture group
abbrev pub group_body : Tree → Option Tree
group_body (group t) = Some t
group_body _ = None

-- the group that a resolved call names
abbrev pub called_group : Tree → Option ℕ
called_group (subroutine_call k) = Some k
called_group _ = None
