-- A tree has as many groups as `group` nodes.
use Rattle.std.proofs.Common.{◌≡◌, ℕ, ◌+◌, List, ◌++◌, length, refl, ap, ◌∙◌, arith}
use Rattle.std.specs.List.{filter_map}
use Rattle.std.proofs.lemmas.List.{length-append}
use Rattle.std.proofs.lemmas.List.Elements.{filter_map-append}
use Rattle.fancy_regex_tree.specs.Tree.{Tree, Trees, concat, alt, group, look_around, repeat, atomic_group, conditional, absent_repeater, absent_expression, absent_stopper, define_group, ast_group, no_trees, more_trees}
use Rattle.fancy_regex_tree.specs.Traversal.{nodes, all_nodes}
use Rattle.fancy_regex_meaning.specs.Groups.{group_count, row_group_count}
use Rattle.fancy_regex_tree_laws.specs.ResolvedGroups.{group_body}

abbrev groups_in : List Tree → ℕ
groups_in ts = length (filter_map group_body ts)

in_both : (xs ys : List Tree) → groups_in (xs ++ ys) ≡ groups_in xs + groups_in ys
in_both xs ys = ap length (filter_map-append group_body xs ys) ∙ length-append (filter_map group_body xs) (filter_map group_body ys)

mutual
  unfolding group_count row_group_count

  pub groups_are_counted : (t : Tree) → groups_in (nodes t) ≡ group_count t
  groups_are_counted (group t) = omega (arith, groups_are_counted t)
  groups_are_counted (concat ts) = row_is_counted ts
  groups_are_counted (alt ts) = row_is_counted ts
  groups_are_counted (look_around t how) = groups_are_counted t
  groups_are_counted (repeat t lo hi greedy) = groups_are_counted t
  groups_are_counted (atomic_group t) = groups_are_counted t
  groups_are_counted (conditional c a b) =
      omega (arith, in_both (nodes c) (nodes a ++ nodes b), in_both (nodes a) (nodes b), groups_are_counted c, groups_are_counted a, groups_are_counted b)
  groups_are_counted (absent_repeater t) = groups_are_counted t
  groups_are_counted (absent_expression a t) = omega (arith, in_both (nodes a) (nodes t), groups_are_counted a, groups_are_counted t)
  groups_are_counted (absent_stopper t) = groups_are_counted t
  groups_are_counted (define_group t) = groups_are_counted t
  groups_are_counted (ast_group name t position) = groups_are_counted t
  groups_are_counted t = refl

  row_is_counted : (ts : Trees) → groups_in (all_nodes ts) ≡ row_group_count ts
  row_is_counted no_trees = refl
  row_is_counted (more_trees t ts) = omega (arith, in_both (nodes t) (all_nodes ts), groups_are_counted t, row_is_counted ts)
