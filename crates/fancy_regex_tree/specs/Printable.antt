-- Which trees can be printed, and which patterns have a printed text that is parsed as a pattern of the same meaning.
use Rattle.std.specs.Prelude.{ℕ, ◌+◌, max, Bool, true, false, ◌&&◌, ◌||◌, nat_lt, [], ◌∷◌, Option, Some, None, is_some, bytes_eq, if◌then◌else◌}
use Rattle.fancy_regex_text.specs.Text.{Text, is_empty, unbounded}
use Rattle.fancy_regex_tree.specs.Tree.{Tree, empty, any, assertion, literal, concat, alt, group, repeat, delegate, Trees, no_trees, more_trees}
use Rattle.fancy_regex_tree.specs.NormalForm.{class_alone, node_kind, normal_form}
use Rattle.fancy_regex_tree.specs.declared.normal_form_kind.NormalFormKind.{NormalFormKind}
use Rattle.fancy_regex_tree.specs.declared.normal_form_kind.NormalFormKind.TheVariants.{Empty, Anchor, Repeatable}
use Rattle.fancy_regex_tree.specs.declared.expr.Assertion.{Assertion}
use Rattle.fancy_regex_tree.specs.declared.expr.Assertion.TheVariants.{EndTextIgnoreTrailingNewlines, StartLine, StartLineOniguruma, EndLine}

-- a quantifier may follow a node of this kind
unfoldable pub can_be_repeated : NormalFormKind → Bool
can_be_repeated Empty = false
can_be_repeated Anchor = false
can_be_repeated Repeatable = true

unfoldable pub is_printable_assertion : Assertion → Bool
is_printable_assertion (EndTextIgnoreTrailingNewlines crlf) = false
is_printable_assertion (StartLineOniguruma crlf) = false
is_printable_assertion _ = true

unfoldable pub is_one_character : Text → Bool
is_one_character [] = false
is_one_character (c ∷ t) = is_empty t

-- there are two branches or more
unfoldable pub has_two_branches : Trees → Bool
has_two_branches (more_trees t (more_trees u ts)) = true
has_two_branches _ = false

unfoldable mutual
  pub is_printable : Tree → Bool
  is_printable empty = true
  is_printable (any newline crlf) = true
  is_printable (assertion a) = is_printable_assertion a
  is_printable (literal val casei) = is_one_character val
  is_printable (delegate inner casei) = is_some (class_alone inner)
  is_printable (concat ts) = are_printable ts
  is_printable (alt ts) = has_two_branches ts && are_printable ts
  is_printable (group t) = is_printable t
  is_printable (repeat t lo hi greedy) = nat_lt lo unbounded && can_be_repeated (node_kind (normal_form t)) && is_printable t
  is_printable _ = false

  pub are_printable : Trees → Bool
  are_printable no_trees = true
  are_printable (more_trees t ts) = is_printable t && are_printable ts

-- the node is printable if those below it are
unfoldable pub is_printable_node : Tree → Bool
is_printable_node empty = true
is_printable_node (any newline crlf) = true
is_printable_node (assertion a) = is_printable_assertion a
is_printable_node (literal val casei) = is_one_character val
is_printable_node (delegate inner casei) = is_some (class_alone inner)
is_printable_node (concat ts) = true
is_printable_node (alt ts) = has_two_branches ts
is_printable_node (group t) = true
is_printable_node (repeat t lo hi greedy) = nat_lt lo unbounded && can_be_repeated (node_kind (normal_form t))
is_printable_node _ = false

-- the text of a class is parsed as itself
unfoldable pub is_same_class : Text → Option Text → Bool
is_same_class t None = false
is_same_class t (Some class) = bytes_eq t class

-- the text of each class in the tree is parsed as itself
unfoldable mutual
  pub classes_read_back : Tree → Bool
  classes_read_back (delegate inner casei) = is_same_class inner (class_alone inner)
  classes_read_back (concat ts) = all_classes_read_back ts
  classes_read_back (alt ts) = all_classes_read_back ts
  classes_read_back (group t) = classes_read_back t
  classes_read_back (repeat t lo hi greedy) = classes_read_back t
  classes_read_back _ = true

  pub all_classes_read_back : Trees → Bool
  all_classes_read_back no_trees = true
  all_classes_read_back (more_trees t ts) = classes_read_back t && all_classes_read_back ts

-- one level more, where a group is printed
abbrev pub level : Bool → ℕ → ℕ
level needed n = if needed then n + 1 else n

unfoldable pub assertion_levels : Assertion → ℕ
assertion_levels (StartLine crlf) = 1
assertion_levels (EndLine crlf) = 1
assertion_levels _ = 0

-- how deep groups are inside each other in the text that is printed at a precedence
unfoldable mutual
  pub printed_levels : ℕ → Tree → ℕ
  printed_levels precedence (any newline crlf) = level (newline || crlf) 0
  printed_levels precedence (assertion a) = assertion_levels a
  printed_levels precedence (literal val casei) = level casei 0
  printed_levels precedence (delegate inner casei) = level casei 0
  printed_levels precedence (concat ts) = level (nat_lt 1 precedence) (most_levels 2 ts)
  printed_levels precedence (alt ts) = level (nat_lt 0 precedence) (most_levels 1 ts)
  printed_levels precedence (group t) = printed_levels 0 t + 1
  printed_levels precedence (repeat t lo hi greedy) = level (nat_lt 2 precedence) (printed_levels 3 t)
  printed_levels precedence _ = 0

  pub most_levels : ℕ → Trees → ℕ
  most_levels precedence no_trees = 0
  most_levels precedence (more_trees t ts) = max (printed_levels precedence t) (most_levels precedence ts)

-- the pattern of this tree can be printed, and its text is a pattern of the same meaning
unfoldable pub reprints : Tree → Bool
reprints t = is_printable t && classes_read_back t && nat_lt (printed_levels 0 t) 64
