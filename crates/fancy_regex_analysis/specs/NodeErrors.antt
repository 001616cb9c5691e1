-- Errors that apply to a node by itself.
use Rattle.std.specs.Prelude.{ℕ, suc, ℤ, pos, negsuc, Bool, true, false, not, ◌&&◌, ◌||◌, ◌==◌, nat_lt, List, ◌∷◌, chars, string_bytes, decimal, bytes_eq}
use Rattle.std.specs.List.{list_any}
use Rattle.fancy_regex_tree.specs.Traversal.{nodes}
use Rattle.fancy_regex_tree.specs.Tree.{Target, by_number, by_name, relative, Tree, Trees, concat, alt, group, look_around, repeat, atomic_group}
use Rattle.fancy_regex_tree.specs.Tree.{backref, backref_with_level, backref_exists, conditional, subroutine_call, absent_repeater, absent_expression}
use Rattle.fancy_regex_tree.specs.Tree.{absent_stopper, define_group, ast_group, ast_backref, ast_call, ast_condition, no_trees, more_trees}
use Rattle.fancy_regex_info.specs.declared.error.CompileError.{CompileError}
use Rattle.fancy_regex_info.specs.declared.error.CompileError.TheVariants.{Memory, RepeatBoundsReversed, InvalidBackref, SubroutineCallTargetNotFound, UnresolvedAstNode}

-- The test holds of the tree, or of some node below it.
unfoldable mutual
  pub some_node : (Tree → Bool) → Tree → Bool
  some_node test (concat ts) = test (concat ts) || some_node_of test ts
  some_node test (alt ts) = test (alt ts) || some_node_of test ts
  some_node test (group t) = test (group t) || some_node test t
  some_node test (look_around t how) = test (look_around t how) || some_node test t
  some_node test (repeat t lo hi greedy) = test (repeat t lo hi greedy) || some_node test t
  some_node test (atomic_group t) = test (atomic_group t) || some_node test t
  some_node test (conditional c a b) = test (conditional c a b) || (some_node test c || (some_node test a || some_node test b))
  some_node test (absent_repeater t) = test (absent_repeater t) || some_node test t
  some_node test (absent_expression a t) = test (absent_expression a t) || (some_node test a || some_node test t)
  some_node test (absent_stopper t) = test (absent_stopper t) || some_node test t
  some_node test (define_group t) = test (define_group t) || some_node test t
  some_node test (ast_group name t position) = test (ast_group name t position) || some_node test t
  some_node test t = test t

  -- of some tree in a row
  pub some_node_of : (Tree → Bool) → Trees → Bool
  some_node_of test no_trees = false
  some_node_of test (more_trees t ts) = some_node test t || some_node_of test ts

-- a distance with its sign
abbrev pub signed : ℤ → List ℕ
signed (pos n) = 43 ∷ decimal n
signed (negsuc n) = 45 ∷ decimal (suc n)

-- the text, in bytes, is the target: its name, its number, or its distance with its sign
abbrev pub names : Target → List ℕ → Bool
names (by_number n) text = bytes_eq text (decimal n)
names (by_name name) text = bytes_eq (chars text) name
names (relative distance) text = bytes_eq text (signed distance)

abbrev pub is_memory : CompileError → Bool
is_memory Memory = true
is_memory _ = false

abbrev pub is_reversed : CompileError → Bool
is_reversed RepeatBoundsReversed = true
is_reversed _ = false

abbrev pub is_unresolved : CompileError → Bool
is_unresolved UnresolvedAstNode = true
is_unresolved _ = false

-- a repeat whose least count is above its greatest
abbrev pub is_reversed_repeat : Tree → Bool
is_reversed_repeat (repeat t lo hi greedy) = nat_lt hi lo
is_reversed_repeat t = false

-- the tree has such a repeat
abbrev pub has_reversed_repeat : Tree → Bool
has_reversed_repeat t = list_any is_reversed_repeat (nodes t)

-- the cause with this number
abbrev pub is_invalid : ℕ → CompileError → Bool
is_invalid k (InvalidBackref n) = n == k
is_invalid k _ = false

-- the cause with the text of this target
abbrev pub is_not_found : Target → CompileError → Bool
is_not_found target (SubroutineCallTargetNotFound text) = names target (string_bytes text)
is_not_found target _ = false

-- there are groups with the numbers below this; to a back reference or a condition group 0 is none
module _ (groups : ℕ) where
  abbrev pub is_no_group : ℕ → Bool
  is_no_group k = k == 0 || not (nat_lt k groups)

  -- some cause holds of the node
  abbrev pub is_invalid_node : Tree → Bool
  is_invalid_node (repeat t lo hi greedy) = nat_lt hi lo
  is_invalid_node (backref k casei) = is_no_group k
  is_invalid_node (backref_with_level k level casei) = is_no_group k
  is_invalid_node (backref_exists k level) = is_no_group k
  is_invalid_node (subroutine_call k) = not (nat_lt k groups)
  is_invalid_node (ast_call target position) = true
  is_invalid_node (ast_group name t position) = true
  is_invalid_node (ast_backref target casei level position) = true
  is_invalid_node (ast_condition target level position) = true
  is_invalid_node t = false

  -- some cause holds of the node, which is no repeat
  abbrev pub is_invalid_reference : Tree → Bool
  is_invalid_reference (repeat t lo hi greedy) = false
  is_invalid_reference t = is_invalid_node t

  -- this cause holds of it
  abbrev pub shows : CompileError → Tree → Bool
  shows e (repeat t lo hi greedy) = nat_lt hi lo && is_reversed e
  shows e (backref k casei) = is_no_group k && is_invalid k e
  shows e (backref_with_level k level casei) = is_no_group k && is_invalid k e
  shows e (backref_exists k level) = is_no_group k && is_invalid k e
  shows e (subroutine_call k) = not (nat_lt k groups) && is_not_found (by_number k) e
  shows e (ast_call target position) = is_not_found target e
  shows e (ast_group name t position) = is_unresolved e
  shows e (ast_backref target casei level position) = is_unresolved e
  shows e (ast_condition target level position) = is_unresolved e
  shows e t = false
