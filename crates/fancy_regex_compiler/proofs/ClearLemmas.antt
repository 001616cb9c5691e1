-- A node that is written out is one of the tree.
use Rattle.std.proofs.Common.{◌≡◌, ℕ, zero, suc, Bool, true, false, cond, ◌||◌, ◌==◌, List, [], ◌∷◌, ◌++◌, Some, refl, ap, ◌∙◌}
use Rattle.std.specs.Prelude.{slice_get, unwrap_or}
use Rattle.std.proofs.lemmas.Option.{none-some}
use Rattle.fancy_regex_tree.specs.Tree as tree
use Rattle.fancy_regex_tree.specs.Tree.{Tree, Trees, no_trees, more_trees}
use Rattle.fancy_regex_meaning.specs.Groups.{bodies, row_bodies}
use Rattle.fancy_regex_analysis.specs.NodeErrors.{some_node, some_node_of}
use Rattle.fancy_regex_info.specs.Views.{pattern_in}
use Rattle.fancy_regex_analysis.specs.EmittedParts.{some_descendant, some_of_row, some_emitted, IsWhole, itself, called, SomeEmittedPart}
use Rattle.fancy_regex_analysis.proofs.EmittedPartLemmas.{whole_found}
use Rattle.fancy_regex_compiler.specs.Refusals.{Inside}

or_left : (a b : Bool) → a ≡ true → (a || b) ≡ true
or_left true b h = refl
or_left false b h = cc

or_right : (a b : Bool) → b ≡ true → (a || b) ≡ true
or_right true b h = refl
or_right false b h = h

or_either : (a b c : Bool) → (a ≡ true → c ≡ true) → (b ≡ true → c ≡ true) → (a || b) ≡ true → c ≡ true
or_either true b c f g h = f refl
or_either false b c f g h = g h

run_at_all : (b c d : Bool) → (c ≡ true → d ≡ true) → cond b false c ≡ true → d ≡ true
run_at_all true c d f h = absurd (let never : false ≡ true = h in cc)
run_at_all false c d f h = f h

module _ (test : Tree → Bool) where
  abbrev N : Tree → Bool
  N = some_node test

  own_node : (t : Tree) → test t ≡ true → N t ≡ true
  unfolding some_node
  own_node (tree.concat ts) h = or_left (test (tree.concat ts)) (some_node_of test ts) h
  own_node (tree.alt ts) h = or_left (test (tree.alt ts)) (some_node_of test ts) h
  own_node (tree.group t) h = or_left (test (tree.group t)) (N t) h
  own_node (tree.look_around t how) h = or_left (test (tree.look_around t how)) (N t) h
  own_node (tree.repeat t lo hi greedy) h = or_left (test (tree.repeat t lo hi greedy)) (N t) h
  own_node (tree.atomic_group t) h = or_left (test (tree.atomic_group t)) (N t) h
  own_node (tree.conditional c a b) h = or_left (test (tree.conditional c a b)) (N c || (N a || N b)) h
  own_node (tree.absent_repeater t) h = or_left (test (tree.absent_repeater t)) (N t) h
  own_node (tree.absent_expression a t) h = or_left (test (tree.absent_expression a t)) (N a || N t) h
  own_node (tree.absent_stopper t) h = or_left (test (tree.absent_stopper t)) (N t) h
  own_node (tree.define_group t) h = or_left (test (tree.define_group t)) (N t) h
  own_node (tree.ast_group name t position) h = or_left (test (tree.ast_group name t position)) (N t) h
  own_node t h = h

  abbrev at : Inside → Tree → Bool
  at i t = test t

  mutual
    unfolding some_node some_node_of some_descendant some_of_row

    below_node : (i : Inside) (t : Tree) → some_descendant at i t ≡ true → N t ≡ true
    below_node i (tree.concat ts) h = or_right (test (tree.concat ts)) (some_node_of test ts) (row_node i ts h)
    below_node i (tree.alt ts) h = or_right (test (tree.alt ts)) (some_node_of test ts) (row_node i ts h)
    below_node i (tree.group t) h = or_right (test (tree.group t)) (N t) (or_either (test t) (some_descendant at i t) (N t) (own_node t) (below_node i t) h)
    below_node i (tree.look_around t how) h = or_right (test (tree.look_around t how)) (N t) (or_either (test t) (some_descendant at _ t) (N t) (own_node t) (below_node _ t) h)
    below_node i (tree.repeat t lo hi greedy) h = or_right (test (tree.repeat t lo hi greedy)) (N t)
        (run_at_all (hi == 0) (test t || some_descendant at i t) (N t) (or_either (test t) (some_descendant at i t) (N t) (own_node t) (below_node i t)) h)
    below_node i (tree.atomic_group t) h = or_right (test (tree.atomic_group t)) (N t) (or_either (test t) (some_descendant at i t) (N t) (own_node t) (below_node i t) h)
    below_node i (tree.conditional c a b) h =
        let all = N c || (N a || N b) in
        or_right (test (tree.conditional c a b)) all
        (or_either (some_emitted at i c) (some_emitted at i a || some_emitted at i b) all
        (λ e. or_left (N c) (N a || N b) (or_either (test c) (some_descendant at i c) (N c) (own_node c) (below_node i c) e))
        (or_either (some_emitted at i a) (some_emitted at i b) all
        (λ e. or_right (N c) (N a || N b) (or_left (N a) (N b) (or_either (test a) (some_descendant at i a) (N a) (own_node a) (below_node i a) e)))
        (λ e. or_right (N c) (N a || N b) (or_right (N a) (N b) (or_either (test b) (some_descendant at i b) (N b) (own_node b) (below_node i b) e)))) h)
    below_node i (tree.absent_repeater t) h = or_right (test (tree.absent_repeater t)) (N t) (or_either (test t) (some_descendant at _ t) (N t) (own_node t) (below_node _ t) h)
    below_node i (tree.absent_expression a t) h =
        or_right (test (tree.absent_expression a t)) (N a || N t)
        (or_either (some_emitted at _ a) (some_emitted at _ t) (N a || N t)
        (λ e. or_left (N a) (N t) (or_either (test a) (some_descendant at _ a) (N a) (own_node a) (below_node _ a) e))
        (λ e. or_right (N a) (N t) (or_either (test t) (some_descendant at _ t) (N t) (own_node t) (below_node _ t) e)) h)
    below_node i (tree.absent_stopper t) h = or_right (test (tree.absent_stopper t)) (N t) (or_either (test t) (some_descendant at _ t) (N t) (own_node t) (below_node _ t) h)
    below_node i (tree.ast_group name t position) h =
        or_right (test (tree.ast_group name t position)) (N t) (or_either (test t) (some_descendant at i t) (N t) (own_node t) (below_node i t) h)
    below_node i t h = absurd (let never : false ≡ true = h in cc)

    row_node : (i : Inside) (ts : Trees) → some_of_row at i ts ≡ true → some_node_of test ts ≡ true
    row_node i no_trees h = h
    row_node i (more_trees t ts) h =
        or_either (some_emitted at i t) (some_of_row at i ts) (N t || some_node_of test ts)
        (λ e. or_left (N t) (some_node_of test ts) (or_either (test t) (some_descendant at i t) (N t) (own_node t) (below_node i t) e))
        (λ e. or_right (N t) (some_node_of test ts) (row_node i ts e)) h

  -- in some tree of a list
  some_in : List Tree → Bool
  some_in [] = false
  some_in (t ∷ ts) = N t || some_in ts

  both_in : (xs ys : List Tree) (c : Bool) → (some_in xs ≡ true → c ≡ true) → (some_in ys ≡ true → c ≡ true) → some_in (xs ++ ys) ≡ true → c ≡ true
  unfolding some_in
  both_in [] ys c f g h = g h
  both_in (x ∷ xs) ys c f g h =
      or_either (N x) (some_in (xs ++ ys)) c (λ e. f (or_left (N x) (some_in xs) e)) (both_in xs ys c (λ e. f (or_right (N x) (some_in xs) e)) g) h

  in_list : (xs : List Tree) (k : ℕ) (b : Tree) → slice_get xs k ≡ Some b → N b ≡ true → some_in xs ≡ true
  unfolding some_in
  in_list [] k b found h = absurd (none-some _ found)
  in_list (x ∷ xs) zero b found h = or_left (N x) (some_in xs) (ap (λ o. N (unwrap_or o b)) found ∙ h)
  in_list (x ∷ xs) (suc k) b found h = or_right (N x) (some_in xs) (in_list xs k b found h)

  mutual
    unfolding some_node some_node_of bodies row_bodies some_in

    body_node : (t : Tree) → some_in (bodies t) ≡ true → N t ≡ true
    body_node (tree.group t) h = or_right (test (tree.group t)) (N t) (or_either (N t) (some_in (bodies t)) (N t) (λ e. e) (body_node t) h)
    body_node (tree.concat ts) h = or_right (test (tree.concat ts)) (some_node_of test ts) (row_body_node ts h)
    body_node (tree.alt ts) h = or_right (test (tree.alt ts)) (some_node_of test ts) (row_body_node ts h)
    body_node (tree.look_around t how) h = or_right (test (tree.look_around t how)) (N t) (body_node t h)
    body_node (tree.repeat t lo hi greedy) h = or_right (test (tree.repeat t lo hi greedy)) (N t) (body_node t h)
    body_node (tree.atomic_group t) h = or_right (test (tree.atomic_group t)) (N t) (body_node t h)
    body_node (tree.conditional c a b) h =
        let all = N c || (N a || N b) in
        or_right (test (tree.conditional c a b)) all
        (both_in (bodies c) (bodies a ++ bodies b) all (λ e. or_left (N c) (N a || N b) (body_node c e))
        (both_in (bodies a) (bodies b) all (λ e. or_right (N c) (N a || N b) (or_left (N a) (N b) (body_node a e)))
        (λ e. or_right (N c) (N a || N b) (or_right (N a) (N b) (body_node b e)))) h)
    body_node (tree.absent_repeater t) h = or_right (test (tree.absent_repeater t)) (N t) (body_node t h)
    body_node (tree.absent_expression a t) h =
        or_right (test (tree.absent_expression a t)) (N a || N t)
        (both_in (bodies a) (bodies t) (N a || N t) (λ e. or_left (N a) (N t) (body_node a e)) (λ e. or_right (N a) (N t) (body_node t e)) h)
    body_node (tree.absent_stopper t) h = or_right (test (tree.absent_stopper t)) (N t) (body_node t h)
    body_node (tree.define_group t) h = or_right (test (tree.define_group t)) (N t) (body_node t h)
    body_node (tree.ast_group name t position) h = or_right (test (tree.ast_group name t position)) (N t) (body_node t h)
    body_node t h = absurd (let never : false ≡ true = h in cc)

    row_body_node : (ts : Trees) → some_in (row_bodies ts) ≡ true → some_node_of test ts ≡ true
    row_body_node no_trees h = h
    row_body_node (more_trees t ts) h =
        both_in (bodies t) (row_bodies ts) (N t || some_node_of test ts) (λ e. or_left (N t) (some_node_of test ts) (body_node t e))
        (λ e. or_right (N t) (some_node_of test ts) (row_body_node ts e)) h

  group_node : (explicit : Bool) (t : Tree) → some_in (pattern_in explicit t).groups ≡ true → N t ≡ true
  unfolding some_in
  group_node true t h = body_node t h
  group_node false t h = or_either (N t) (some_in (bodies t)) (N t) (λ e. e) (body_node t) h

  -- a node of the body of a group is one of the tree
  pub group_body_node : (explicit : Bool) (root : Tree) (k : ℕ) (body : Tree) → slice_get (pattern_in explicit root).groups k ≡ Some body → N body ≡ true → N root ≡ true
  group_body_node explicit root k body found h = group_node explicit root (in_list (pattern_in explicit root).groups k body found h)

  whole_node : (explicit : Bool) (root : Tree) (i : Inside) (t : Tree) → IsWhole (pattern_in explicit root).groups root i t → N t ≡ true → N root ≡ true
  whole_node explicit root i t itself h = h
  whole_node explicit root i body (called j t _ call whole has found) h =
      group_node explicit root (in_list (pattern_in explicit root).groups call.group body found h)

  pub part_node : (explicit : Bool) (root : Tree) → SomeEmittedPart (pattern_in explicit root).groups root at → N root ≡ true
  part_node explicit root p =
      let a = whole_found (pattern_in explicit root).groups root at p in
      whole_node explicit root a.0 a.1 a.2 (or_either (test a.1) (some_descendant at a.0 a.1) (N a.1) (own_node a.1) (below_node a.0 a.1) a.3)
