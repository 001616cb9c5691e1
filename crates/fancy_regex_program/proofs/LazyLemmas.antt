-- A tree with each quantifier lazy has the classes of the tree, and can be printed where the tree can.
use Rattle.std.proofs.Common.{◌≡◌, ℕ, Bool, true, false, cond, List, [], ◌∷◌, ◌++◌, map, refl, ap, ap₂, ◌∙◌}
use Rattle.std.specs.Prelude.{◌&&◌, nat_lt}
use Rattle.fancy_regex_tree.specs.Tree as tree
use Rattle.fancy_regex_tree.specs.Tree.{Tree, Trees, no_trees, more_trees, trees, tree_of}
use Rattle.fancy_regex_tree.specs.declared.expr.Expr.{Expr}
use Rattle.fancy_regex_tree.specs.NormalForm.{node_kind, with_piece, row_of, normal_form, normal_pieces, normal_branches}
use Rattle.fancy_regex_tree.specs.Printable.{can_be_repeated, has_two_branches, is_printable, are_printable}
use Rattle.fancy_regex_tree.specs.declared.normal_form_kind.NormalFormKind.{NormalFormKind}
use Rattle.fancy_regex_tree.specs.declared.normal_form_kind.NormalFormKind.TheVariants.{Empty, Anchor, Repeatable}
use Rattle.fancy_regex_meaning.specs.Groups.{group_count}
use Rattle.fancy_regex_meaning.specs.Sizes.{unbounded}
use Rattle.fancy_regex_info.specs.Easy.{is_easy}
use Rattle.fancy_regex_desugar.specs.Delegates.{lazily, all_lazily, searched}
use Rattle.fancy_regex_desugar.proofs.LazyLemmas.{lazily_groups, lazily_easy}
use Rattle.fancy_regex_linear.specs.Plain.{has_no_iteration, classes, row_classes}

mutual
  unfolding lazily all_lazily classes row_classes

  lazily_classes : (t : Tree) → classes (lazily t) ≡ classes t
  lazily_classes (tree.concat ts) = all_lazily_classes ts
  lazily_classes (tree.alt ts) = all_lazily_classes ts
  lazily_classes (tree.group t) = lazily_classes t
  lazily_classes (tree.repeat t lo hi greedy) = ap (λ l. cond (has_no_iteration lo hi) [] l) (lazily_classes t)
  lazily_classes _ = refl

  all_lazily_classes : (ts : Trees) → row_classes (all_lazily ts) ≡ row_classes ts
  all_lazily_classes no_trees = refl
  all_lazily_classes (more_trees t ts) = ap₂ (λ a b. a ++ b) (lazily_classes t) (all_lazily_classes ts)

lazily_kind : (t : Tree) → node_kind (lazily t) ≡ node_kind t
unfolding lazily node_kind
lazily_kind tree.empty = refl
lazily_kind _ = refl

lazily_piece : (t : Tree) (ts : Trees) → with_piece (lazily t) (all_lazily ts) ≡ all_lazily (with_piece t ts)
unfolding all_lazily with_piece
lazily_piece t ts =
    ap (λ k. elim k as (λ _. Trees) [ Empty ↦ all_lazily ts | Anchor ↦ more_trees (lazily t) (all_lazily ts) | Repeatable ↦ more_trees (lazily t) (all_lazily ts) ])
    (lazily_kind t)
    ∙ at (node_kind t)
  where
    at : (k : NormalFormKind) →
        (elim k as (λ _. Trees) [ Empty ↦ all_lazily ts | Anchor ↦ more_trees (lazily t) (all_lazily ts) | Repeatable ↦ more_trees (lazily t) (all_lazily ts) ])
        ≡ all_lazily (elim k as (λ _. Trees) [ Empty ↦ ts | Anchor ↦ more_trees t ts | Repeatable ↦ more_trees t ts ])
    at Empty = refl
    at Anchor = refl
    at Repeatable = refl

lazily_row : (ts : Trees) → row_of (all_lazily ts) ≡ lazily (row_of ts)
unfolding lazily all_lazily row_of
lazily_row no_trees = refl
lazily_row (more_trees t no_trees) = refl
lazily_row (more_trees t (more_trees u ts)) = refl

mutual
  unfolding lazily all_lazily normal_form normal_pieces normal_branches

  lazily_normal : (t : Tree) → normal_form (lazily t) ≡ lazily (normal_form t)
  lazily_normal (tree.concat ts) = ap row_of (lazily_pieces ts) ∙ lazily_row (normal_pieces ts)
  lazily_normal (tree.alt ts) = ap tree.alt (lazily_branches ts)
  lazily_normal (tree.group t) = ap tree.group (lazily_normal t)
  lazily_normal (tree.repeat t lo hi greedy) = ap (λ u. tree.repeat u lo hi false) (lazily_normal t)
  lazily_normal _ = refl

  lazily_pieces : (ts : Trees) → normal_pieces (all_lazily ts) ≡ all_lazily (normal_pieces ts)
  lazily_pieces no_trees = refl
  lazily_pieces (more_trees t ts) = ap₂ with_piece (lazily_normal t) (lazily_pieces ts) ∙ lazily_piece (normal_form t) (normal_pieces ts)

  lazily_branches : (ts : Trees) → normal_branches (all_lazily ts) ≡ all_lazily (normal_branches ts)
  lazily_branches no_trees = refl
  lazily_branches (more_trees t ts) = ap₂ more_trees (lazily_normal t) (lazily_branches ts)

lazily_two : (ts : Trees) → has_two_branches (all_lazily ts) ≡ has_two_branches ts
unfolding all_lazily has_two_branches
lazily_two no_trees = refl
lazily_two (more_trees t no_trees) = refl
lazily_two (more_trees t (more_trees u ts)) = refl

mutual
  unfolding lazily all_lazily is_printable are_printable

  lazily_printable : (t : Tree) → is_printable (lazily t) ≡ is_printable t
  lazily_printable (tree.concat ts) = all_lazily_printable ts
  lazily_printable (tree.alt ts) = ap₂ (λ a b. a && b) (lazily_two ts) (all_lazily_printable ts)
  lazily_printable (tree.group t) = lazily_printable t
  lazily_printable (tree.repeat t lo hi greedy) =
      ap₂ (λ k b. nat_lt lo unbounded && can_be_repeated k && b) (ap node_kind (lazily_normal t) ∙ lazily_kind (normal_form t)) (lazily_printable t)
  lazily_printable _ = refl

  all_lazily_printable : (ts : Trees) → are_printable (all_lazily ts) ≡ are_printable ts
  all_lazily_printable no_trees = refl
  all_lazily_printable (more_trees t ts) = ap₂ (λ a b. a && b) (lazily_printable t) (all_lazily_printable ts)

-- the lazy forms of all trees of a list
pub lazily_of_all : (es : List Expr) → all_lazily (trees (map tree_of es)) ≡ trees (map (λ e. lazily (tree_of e)) es)
unfolding all_lazily
lazily_of_all [] = refl
lazily_of_all (e ∷ es) = ap (more_trees (lazily (tree_of e))) (lazily_of_all es)

-- the same of the tree that is searched
pub searched_groups : (for_any : Bool) (t : Tree) → group_count (searched for_any t) ≡ group_count t
searched_groups true t = lazily_groups t
searched_groups false t = refl

pub searched_easy : (for_any : Bool) (reads : ℕ → Bool) (k : ℕ) (t : Tree) → is_easy reads k (searched for_any t) ≡ is_easy reads k t
searched_easy true reads k t = lazily_easy reads k t
searched_easy false reads k t = refl

pub searched_classes : (for_any : Bool) (t : Tree) → classes (searched for_any t) ≡ classes t
searched_classes true t = lazily_classes t
searched_classes false t = refl

pub searched_printable : (for_any : Bool) (t : Tree) → is_printable (searched for_any t) ≡ is_printable t
searched_printable true t = lazily_printable t
searched_printable false t = refl
