-- What the code's values say in the words of the meaning.
use Rattle.std.specs.Prelude.{ℕ, Bool, false, List, slice_get, Option, Some, None, if◌then◌else◌}
use Rattle.std.specs.Borrow.{Bor}
use Rattle.fancy_regex_tree.specs.Tree.{Tree, tree_of}
use Rattle.fancy_regex_tree.specs.declared.expr.Expr.{Expr}
use Rattle.fancy_regex_meaning.specs.Groups.{Pattern, pattern_of, explicit_pattern_of}
use Rattle.fancy_regex_meaning.specs.Sizes.{Size, any_size}
use Rattle.fancy_regex_info.specs.declared.size.Size as code

abbrev pub size_of : code.Size → Size
size_of s = record { least = s.least; greatest = s.greatest; always = s.always }

abbrev pub size_or_any : Option code.Size → Size
size_or_any None = any_size
size_or_any (Some s) = size_of s

-- what a call takes, by the sizes of the groups that are called
abbrev pub size_at : List code.Size → ℕ → Size
size_at calls k = size_or_any (slice_get calls k)

-- the pattern of a tree, where groups count from 1 or from 0
abbrev pub pattern_in : Bool → Tree → Pattern
pattern_in explicit t = if explicit then explicit_pattern_of t else pattern_of t

-- the tree of a body that is borrowed
abbrev pub body_tree : Bor Expr → Tree
body_tree body = tree_of body.now

-- what a line break takes
abbrev pub newline_size : Size
newline_size = record { least = 1; greatest = 2; always = false }
