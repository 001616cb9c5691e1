-- Termination: a node can end if its calls can be expanded to a finite tree, by choosing branches and numbers of iterations.
use Rattle.std.specs.Prelude.{◌≡◌, ℕ, zero, suc, Bool, true, false, ◌&&◌, ◌||◌, ◌==◌, List, length, Option, None, Some}
use Rattle.fancy_regex_tree.specs.declared.expr.LookAround.{LookAround}
use Rattle.fancy_regex_tree.specs.Tree.{Text, Tree, Trees, concat, alt, group, look_around, repeat, atomic_group, conditional, subroutine_call, absent_repeater, absent_expression, absent_stopper, define_group, ast_group, no_trees, more_trees}
use Rattle.fancy_regex_meaning.specs.Sizes.{target}

-- whether a node can end, given which calls can
unfoldable mutual
  pub can_end_with : (ℕ → Bool) → Tree → Bool
  can_end_with call (concat ts) = all_can_end call ts
  can_end_with call (alt ts) = some_can_end call ts
  can_end_with call (repeat t lo hi greedy) = lo == 0 || can_end_with call t
  can_end_with call (conditional c a b) = can_end_with call c && (can_end_with call a || can_end_with call b)
  can_end_with call (subroutine_call k) = call k
  can_end_with call (group t) = can_end_with call t
  can_end_with call (look_around t how) = can_end_with call t
  can_end_with call (atomic_group t) = can_end_with call t
  can_end_with call (absent_repeater t) = can_end_with call t
  can_end_with call (absent_expression a t) = can_end_with call t && can_end_with call a
  can_end_with call (absent_stopper t) = can_end_with call t
  can_end_with call (define_group t) = can_end_with call t
  can_end_with call (ast_group name t position) = can_end_with call t
  can_end_with call _ = true

  pub all_can_end : (ℕ → Bool) → Trees → Bool
  all_can_end call no_trees = true
  all_can_end call (more_trees t ts) = can_end_with call t && all_can_end call ts

  pub some_can_end : (ℕ → Bool) → Trees → Bool
  some_can_end call no_trees = false
  some_can_end call (more_trees t ts) = can_end_with call t || some_can_end call ts

-- a node with parts, or a call
abbrev pub has_parts : Tree → Bool
has_parts (concat ts) = true
has_parts (alt ts) = true
has_parts (repeat t lo hi greedy) = true
has_parts (conditional c a b) = true
has_parts (subroutine_call k) = true
has_parts (group t) = true
has_parts (look_around t how) = true
has_parts (atomic_group t) = true
has_parts (absent_repeater t) = true
has_parts (absent_expression a t) = true
has_parts (absent_stopper t) = true
has_parts (define_group t) = true
has_parts (ast_group name t position) = true
has_parts _ = false

module _ (groups : List Tree) where
  -- the node has a finite expansion with calls at most n deep; a call of a missing group counts as one
  unfoldable pub ends_through : ℕ → Tree → Bool
  ends_through zero = can_end_with (λ k. elim (target groups k) [ None ↦ true | Some body ↦ false ])
  ends_through (suc n) = can_end_with (λ k. elim (target groups k) [ None ↦ true | Some body ↦ ends_through n body ])

  -- A least unfolding calls no target that is open, so it is as deep as there are targets at most.
  unfoldable pub can_end : Tree → Bool
  can_end = ends_through (length groups)

-- A finite unfolding of a part: which branch is taken, whether a repeat runs its body, and the unfolding of each call's target.
mutual
  pub data Unfolding (groups : List Tree) : Tree → Type 0 where
    of_leaf : (t : Tree) → has_parts t ≡ false → Unfolding groups t
    of_row : (ts : Trees) → RowUnfolding groups ts → Unfolding groups (concat ts)
    of_branch : (ts : Trees) → BranchUnfolding groups ts → Unfolding groups (alt ts)
    of_no_repetition : (t : Tree) (hi : ℕ) (greedy : Bool) → Unfolding groups (repeat t 0 hi greedy)
    of_repetitions : (t : Tree) (lo hi : ℕ) (greedy : Bool) → Unfolding groups t → Unfolding groups (repeat t lo hi greedy)
    of_yes : (c a b : Tree) → Unfolding groups c → Unfolding groups a → Unfolding groups (conditional c a b)
    of_no : (c a b : Tree) → Unfolding groups c → Unfolding groups b → Unfolding groups (conditional c a b)
    of_target : (k : ℕ) (body : Tree) → target groups k ≡ Some body → Unfolding groups body → Unfolding groups (subroutine_call k)
    of_no_target : (k : ℕ) → target groups k ≡ None → Unfolding groups (subroutine_call k)
    of_group : (t : Tree) → Unfolding groups t → Unfolding groups (group t)
    of_look_around : (t : Tree) (how : LookAround) → Unfolding groups t → Unfolding groups (look_around t how)
    of_atomic_group : (t : Tree) → Unfolding groups t → Unfolding groups (atomic_group t)
    of_absent_repeater : (t : Tree) → Unfolding groups t → Unfolding groups (absent_repeater t)
    of_absent_expression : (a t : Tree) → Unfolding groups a → Unfolding groups t → Unfolding groups (absent_expression a t)
    of_absent_stopper : (t : Tree) → Unfolding groups t → Unfolding groups (absent_stopper t)
    of_define_group : (t : Tree) → Unfolding groups t → Unfolding groups (define_group t)
    of_ast_group : (name : Option Text) (t : Tree) (position : ℕ) → Unfolding groups t → Unfolding groups (ast_group name t position)

  -- of each part of a row
  pub data RowUnfolding (groups : List Tree) : Trees → Type 0 where
    of_none : RowUnfolding groups no_trees
    of_each : (t : Tree) (ts : Trees) → Unfolding groups t → RowUnfolding groups ts → RowUnfolding groups (more_trees t ts)

  -- of one of the branches
  pub data BranchUnfolding (groups : List Tree) : Trees → Type 0 where
    of_this : (t : Tree) (ts : Trees) → Unfolding groups t → BranchUnfolding groups (more_trees t ts)
    of_later : (t : Tree) (ts : Trees) → BranchUnfolding groups ts → BranchUnfolding groups (more_trees t ts)
