-- The parts of a pattern that the compiler emits code for, each with its context: calls are expanded in place, definitions and
-- bodies quantified `{0}` emit nothing.
use Rattle.std.specs.Prelude.{◌≡◌, ℕ, Bool, true, false, ◌||◌, List, [], ◌∷◌, ◌++◌, ◌==◌, if◌then◌else◌, Option, Some, None}
use Rattle.std.specs.List.{Contains}
use Rattle.fancy_regex_tree.specs.Tree.{Tree, Trees, tree_of, concat, alt, group, look_around, repeat, atomic_group, conditional, subroutine_call}
use Rattle.fancy_regex_tree.specs.Tree.{absent_repeater, absent_expression, absent_stopper, define_group, ast_group, no_trees, more_trees}
use Rattle.fancy_regex_tree.specs.Traversal.{subtrees}
use Rattle.fancy_regex_meaning.specs.Sizes.{target}
use Rattle.fancy_regex_analysis.specs.declared.emitted.Inside.{Inside}
use Rattle.fancy_regex_analysis.specs.declared.emitted.Inside.TheVariants.{Nothing, LookAround, Absent}
use Rattle.fancy_regex_analysis.specs.declared.emitted.EmittedCall.{EmittedCall}
use Rattle.fancy_regex_analysis.specs.declared.emitted.EmittedPart.{EmittedPart}
use Rattle.fancy_regex_analysis.specs.declared.emitted.Visited.{Visited}

-- the context of the body of a look-around, from that of the look-around
abbrev pub in_look_around : Inside → Inside
in_look_around Nothing = LookAround
in_look_around LookAround = LookAround
in_look_around Absent = Absent

-- The test holds of some emitted proper descendant of the tree, where i is the context of the tree.
unfoldable mutual
  pub some_descendant : (Inside → Tree → Bool) → Inside → Tree → Bool
  some_descendant test i (concat ts) = some_of_row test i ts
  some_descendant test i (alt ts) = some_of_row test i ts
  some_descendant test i (group t) = test i t || some_descendant test i t
  some_descendant test i (look_around t how) = test (in_look_around i) t || some_descendant test (in_look_around i) t
  some_descendant test i (repeat t lo hi greedy) = if hi == 0 then false else (test i t || some_descendant test i t)
  some_descendant test i (atomic_group t) = test i t || some_descendant test i t
  some_descendant test i (conditional c a b) =
      (test i c || some_descendant test i c) || ((test i a || some_descendant test i a) || (test i b || some_descendant test i b))
  some_descendant test i (absent_repeater t) = test Absent t || some_descendant test Absent t
  some_descendant test i (absent_expression a t) = (test Absent a || some_descendant test Absent a) || (test Absent t || some_descendant test Absent t)
  some_descendant test i (absent_stopper t) = test Absent t || some_descendant test Absent t
  some_descendant test i (ast_group name t position) = test i t || some_descendant test i t
  some_descendant test i t = false

  pub some_of_row : (Inside → Tree → Bool) → Inside → Trees → Bool
  some_of_row test i no_trees = false
  some_of_row test i (more_trees t ts) = (test i t || some_descendant test i t) || some_of_row test i ts

-- of the tree itself or of a part below it
abbrev pub some_emitted : (Inside → Tree → Bool) → Inside → Tree → Bool
some_emitted test i t = test i t || some_descendant test i t

-- The parts of a tree that code is emitted for, in preorder: the tree itself in the context i, then those below it.
unfoldable mutual
  pub emitted_parts : Inside → Tree → List (Inside × Tree)
  emitted_parts i (concat ts) = (i, concat ts) ∷ emitted_parts_in_row i ts
  emitted_parts i (alt ts) = (i, alt ts) ∷ emitted_parts_in_row i ts
  emitted_parts i (group t) = (i, group t) ∷ emitted_parts i t
  emitted_parts i (look_around t how) = (i, look_around t how) ∷ emitted_parts (in_look_around i) t
  emitted_parts i (repeat t lo hi greedy) = (i, repeat t lo hi greedy) ∷ (if hi == 0 then [] else emitted_parts i t)
  emitted_parts i (atomic_group t) = (i, atomic_group t) ∷ emitted_parts i t
  emitted_parts i (conditional c a b) = (i, conditional c a b) ∷ emitted_parts i c ++ (emitted_parts i a ++ emitted_parts i b)
  emitted_parts i (absent_repeater t) = (i, absent_repeater t) ∷ emitted_parts Absent t
  emitted_parts i (absent_expression a t) = (i, absent_expression a t) ∷ emitted_parts Absent a ++ emitted_parts Absent t
  emitted_parts i (absent_stopper t) = (i, absent_stopper t) ∷ emitted_parts Absent t
  emitted_parts i (ast_group name t position) = (i, ast_group name t position) ∷ emitted_parts i t
  emitted_parts i t = (i, t) ∷ []

  pub emitted_parts_in_row : Inside → Trees → List (Inside × Tree)
  emitted_parts_in_row i no_trees = []
  emitted_parts_in_row i (more_trees t ts) = emitted_parts i t ++ emitted_parts_in_row i ts

-- a part with its context, as the code holds it
abbrev pub part_at : EmittedPart → Inside × Tree
part_at part = (part.inside, tree_of part.expr.now)

-- the call that a node is, in its context
abbrev pub call_in : Inside → Tree → Option EmittedCall
call_in i (subroutine_call k) = Some (record { group = k; inside = i })
call_in i _ = None

abbrev pub call_of : Inside × Tree → Option EmittedCall
call_of part = call_in part.0 part.1

-- the subroutine calls that code is emitted for with the tree, in pattern order, each with its context
unfoldable mutual
  pub emitted_calls : Inside → Tree → List EmittedCall
  emitted_calls i (subroutine_call k) = record { group = k; inside = i } ∷ []
  emitted_calls i (concat ts) = emitted_calls_in_row i ts
  emitted_calls i (alt ts) = emitted_calls_in_row i ts
  emitted_calls i (group t) = emitted_calls i t
  emitted_calls i (look_around t how) = emitted_calls (in_look_around i) t
  emitted_calls i (repeat t lo hi greedy) = if hi == 0 then [] else emitted_calls i t
  emitted_calls i (atomic_group t) = emitted_calls i t
  emitted_calls i (conditional c a b) = emitted_calls i c ++ (emitted_calls i a ++ emitted_calls i b)
  emitted_calls i (absent_repeater t) = emitted_calls Absent t
  emitted_calls i (absent_expression a t) = emitted_calls Absent a ++ emitted_calls Absent t
  emitted_calls i (absent_stopper t) = emitted_calls Absent t
  emitted_calls i (ast_group name t position) = emitted_calls i t
  emitted_calls i _ = []

  pub emitted_calls_in_row : Inside → Trees → List EmittedCall
  emitted_calls_in_row i no_trees = []
  emitted_calls_in_row i (more_trees t ts) = emitted_calls i t ++ emitted_calls_in_row i ts

-- A body that is emitted as a whole, and its context: the root, and the body of each group that an emitted call names.
pub data IsWhole (groups : List Tree) (root : Tree) : Inside → Tree → Type 0 where
  itself : IsWhole groups root Nothing root
  called : (i : Inside) (t body : Tree) (call : EmittedCall) → IsWhole groups root i t → Contains (emitted_calls i t) call →
      target groups call.group ≡ Some body → IsWhole groups root call.inside body

-- the context of the children of a node, from that of the node
abbrev pub inside_of_children : Inside → Tree → Inside
inside_of_children i (look_around t how) = in_look_around i
inside_of_children i (absent_repeater t) = Absent
inside_of_children i (absent_expression a t) = Absent
inside_of_children i (absent_stopper t) = Absent
inside_of_children i t = i

-- a repeat that is never run, or definitions
abbrev pub skips_children : Tree → Bool
skips_children (repeat t lo hi greedy) = hi == 0
skips_children (define_group t) = true
skips_children t = false

-- A part that is written out, and what it stands inside of: the root, each child of what is written out, but for a repeat that
-- is never run and for definitions, and the body of each group that is called where the call is written out.
pub data IsEmitted (groups : List Tree) (root : Tree) : Inside → Tree → Type 0 where
  the_root : IsEmitted groups root Nothing root
  child : (i : Inside) (t u : Tree) → IsEmitted groups root i t → skips_children t ≡ false → Contains (subtrees t) u →
      IsEmitted groups root (inside_of_children i t) u
  body : (i : Inside) (k : ℕ) (u : Tree) → IsEmitted groups root i (subroutine_call k) → target groups k ≡ Some u → IsEmitted groups root i u

-- The test holds of some emitted part.
abbrev pub SomeEmittedPart : List Tree → Tree → (Inside → Tree → Bool) → Type 0
SomeEmittedPart groups root test = (i : Inside) × (t : Tree) × IsEmitted groups root i t × (test i t ≡ true)

-- the body of a group was visited in this context
abbrev pub was_visited_in : Visited → Inside → Bool
was_visited_in w Nothing = w.nothing
was_visited_in w LookAround = w.look_around
was_visited_in w Absent = w.absent

abbrev pub with_visited_in : Visited → Inside → Visited
with_visited_in w Nothing = record { nothing = true; look_around = w.look_around; absent = w.absent }
with_visited_in w LookAround = record { nothing = w.nothing; look_around = true; absent = w.absent }
with_visited_in w Absent = record { nothing = w.nothing; look_around = w.look_around; absent = true }
