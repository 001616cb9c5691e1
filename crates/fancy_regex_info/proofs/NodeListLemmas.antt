-- The groups, calls and references of a tree are what its nodes add, one by one in preorder.
use Rattle.std.proofs.Common.{◌≡◌, ℕ, ◌+◌, ◌<◌, ◌≤◌, List, [], ◌∷◌, ◌++◌, Option, Some, None, length, take, get_or, map, refl, sym, ap, ap₂, ◌∙◌}
use Rattle.std.specs.List.{filter_map}
use Rattle.std.specs.Option.{option_to_list}
use Rattle.std.proofs.lemmas.List.{append-nil, take_all}
use Rattle.std.proofs.lemmas.List.Elements.{filter_map-append}
use Rattle.fancy_regex_tree.specs.Tree.{Tree, Trees, concat, alt, group, look_around, repeat, atomic_group, backref, backref_with_level, backref_exists, subroutine_call}
use Rattle.fancy_regex_tree.specs.Tree.{conditional, absent_repeater, absent_expression, absent_stopper, define_group, ast_group, no_trees, more_trees}
use Rattle.fancy_regex_tree.specs.Traversal.{nodes, all_nodes}
use Rattle.fancy_regex_tree.specs.ReferenceSummary.{back_group}
use Rattle.fancy_regex_meaning.specs.Groups.{bodies, row_bodies}
use Rattle.fancy_regex_meaning.specs.Sizes.{calls_in, calls_in_row}
use Rattle.fancy_regex_info.specs.References.{references_in, references_in_row}
use Rattle.fancy_regex_info.specs.GroupNodes.{group_body, called_group}
use Rattle.fancy_regex_info.proofs.RowLemmas.{walk_goes_on}

-- what two lists add
pub both_add : {U Y : Type 0} (f : U → Option Y) (xs ys : List U) (a b : List Y) → a ≡ filter_map f xs → b ≡ filter_map f ys →
    a ++ b ≡ filter_map f (xs ++ ys)
both_add f xs ys a b h k = ap₂ (λ p q. p ++ q) h k ∙ sym (filter_map-append f xs ys)

-- Items that the elements of a list add, where each element is viewed as one of U.
module _ {X U Y : Type 0} (view : X → U) (f : U → Option Y) where
  abbrev added_by : X → List Y
  added_by x = option_to_list (f (view x))

  abbrev added : List X → List Y
  added xs = filter_map f (map view xs)

  first_adds : (o : Option Y) (x : X) (xs : List X) → f (view x) ≡ o → added (x ∷ xs) ≡ option_to_list o ++ added xs
  first_adds None x xs is = rw is refl
  first_adds (Some y) x xs is = rw is refl

  next_adds : (start now next : List Y) (xs : List X) (i : ℕ) (x : X) → i < length xs → x ≡ get_or xs i x →
      now ≡ start ++ added (take i xs) → next ≡ now ++ added_by x → next ≡ start ++ added (take (i + 1) xs)
  next_adds = walk_goes_on added_by added refl (λ x xs. first_adds (f (view x)) x xs refl)

  -- one element further, which adds an item
  pub node_adds : (start now next : List Y) (xs : List X) (i : ℕ) (x : X) (y : Y) → i < length xs → x ≡ get_or xs i x →
      now ≡ start ++ added (take i xs) → f (view x) ≡ Some y → next ≡ now ++ y ∷ [] → next ≡ start ++ added (take (i + 1) xs)
  node_adds start now next xs i x y inside is was adds step =
      next_adds start now next xs i x inside is was (step ∙ ap (λ o. now ++ option_to_list o) (sym adds))

  -- and one that adds none
  pub node_adds_none : (start now next : List Y) (xs : List X) (i : ℕ) (x : X) → i < length xs → x ≡ get_or xs i x →
      now ≡ start ++ added (take i xs) → f (view x) ≡ None → next ≡ now → next ≡ start ++ added (take (i + 1) xs)
  node_adds_none start now next xs i x inside is was none step =
      next_adds start now next xs i x inside is was (step ∙ sym (append-nil now) ∙ ap (λ o. now ++ option_to_list o) (sym none))

  -- after the last
  pub nodes_end : (start now : List Y) (xs : List X) (i : ℕ) (us : List U) → map view xs ≡ us → length xs ≤ i →
      now ≡ start ++ added (take i xs) → now ≡ start ++ filter_map f us
  nodes_end start now xs i us all past was =
      was ∙ ap (λ ys. start ++ added ys) (take_all i xs past) ∙ ap (λ vs. start ++ filter_map f vs) all

mutual
  unfolding bodies row_bodies

  pub bodies_of_nodes : (t : Tree) → bodies t ≡ filter_map group_body (nodes t)
  bodies_of_nodes (group t) = ap (λ ts. t ∷ ts) (bodies_of_nodes t)
  bodies_of_nodes (concat ts) = bodies_of_row ts
  bodies_of_nodes (alt ts) = bodies_of_row ts
  bodies_of_nodes (look_around t how) = bodies_of_nodes t
  bodies_of_nodes (repeat t lo hi greedy) = bodies_of_nodes t
  bodies_of_nodes (atomic_group t) = bodies_of_nodes t
  bodies_of_nodes (conditional c a b) =
      both_add group_body (nodes c) (nodes a ++ nodes b) (bodies c) (bodies a ++ bodies b) (bodies_of_nodes c)
      (both_add group_body (nodes a) (nodes b) (bodies a) (bodies b) (bodies_of_nodes a) (bodies_of_nodes b))
  bodies_of_nodes (absent_repeater t) = bodies_of_nodes t
  bodies_of_nodes (absent_expression a t) = both_add group_body (nodes a) (nodes t) (bodies a) (bodies t) (bodies_of_nodes a) (bodies_of_nodes t)
  bodies_of_nodes (absent_stopper t) = bodies_of_nodes t
  bodies_of_nodes (define_group t) = bodies_of_nodes t
  bodies_of_nodes (ast_group name t position) = bodies_of_nodes t
  bodies_of_nodes t = refl

  bodies_of_row : (ts : Trees) → row_bodies ts ≡ filter_map group_body (all_nodes ts)
  bodies_of_row no_trees = refl
  bodies_of_row (more_trees t ts) = both_add group_body (nodes t) (all_nodes ts) (bodies t) (row_bodies ts) (bodies_of_nodes t) (bodies_of_row ts)

mutual
  unfolding calls_in calls_in_row

  pub calls_of_nodes : (t : Tree) → calls_in t ≡ filter_map called_group (nodes t)
  calls_of_nodes (subroutine_call k) = refl
  calls_of_nodes (group t) = calls_of_nodes t
  calls_of_nodes (concat ts) = calls_of_row ts
  calls_of_nodes (alt ts) = calls_of_row ts
  calls_of_nodes (look_around t how) = calls_of_nodes t
  calls_of_nodes (repeat t lo hi greedy) = calls_of_nodes t
  calls_of_nodes (atomic_group t) = calls_of_nodes t
  calls_of_nodes (conditional c a b) =
      both_add called_group (nodes c) (nodes a ++ nodes b) (calls_in c) (calls_in a ++ calls_in b) (calls_of_nodes c)
      (both_add called_group (nodes a) (nodes b) (calls_in a) (calls_in b) (calls_of_nodes a) (calls_of_nodes b))
  calls_of_nodes (absent_repeater t) = calls_of_nodes t
  calls_of_nodes (absent_expression a t) = both_add called_group (nodes a) (nodes t) (calls_in a) (calls_in t) (calls_of_nodes a) (calls_of_nodes t)
  calls_of_nodes (absent_stopper t) = calls_of_nodes t
  calls_of_nodes (define_group t) = calls_of_nodes t
  calls_of_nodes (ast_group name t position) = calls_of_nodes t
  calls_of_nodes t = refl

  calls_of_row : (ts : Trees) → calls_in_row ts ≡ filter_map called_group (all_nodes ts)
  calls_of_row no_trees = refl
  calls_of_row (more_trees t ts) = both_add called_group (nodes t) (all_nodes ts) (calls_in t) (calls_in_row ts) (calls_of_nodes t) (calls_of_row ts)

mutual
  unfolding references_in references_in_row

  pub references_of_nodes : (t : Tree) → references_in t ≡ filter_map back_group (nodes t)
  references_of_nodes (backref k casei) = refl
  references_of_nodes (backref_with_level k level casei) = refl
  references_of_nodes (backref_exists k level) = refl
  references_of_nodes (group t) = references_of_nodes t
  references_of_nodes (concat ts) = references_of_row ts
  references_of_nodes (alt ts) = references_of_row ts
  references_of_nodes (look_around t how) = references_of_nodes t
  references_of_nodes (repeat t lo hi greedy) = references_of_nodes t
  references_of_nodes (atomic_group t) = references_of_nodes t
  references_of_nodes (conditional c a b) =
      both_add back_group (nodes c) (nodes a ++ nodes b) (references_in c) (references_in a ++ references_in b) (references_of_nodes c)
      (both_add back_group (nodes a) (nodes b) (references_in a) (references_in b) (references_of_nodes a) (references_of_nodes b))
  references_of_nodes (absent_repeater t) = references_of_nodes t
  references_of_nodes (absent_expression a t) =
      both_add back_group (nodes a) (nodes t) (references_in a) (references_in t) (references_of_nodes a) (references_of_nodes t)
  references_of_nodes (absent_stopper t) = references_of_nodes t
  references_of_nodes (define_group t) = references_of_nodes t
  references_of_nodes (ast_group name t position) = references_of_nodes t
  references_of_nodes t = refl

  references_of_row : (ts : Trees) → references_in_row ts ≡ filter_map back_group (all_nodes ts)
  references_of_row no_trees = refl
  references_of_row (more_trees t ts) =
      both_add back_group (nodes t) (all_nodes ts) (references_in t) (references_in_row ts) (references_of_nodes t) (references_of_row ts)
