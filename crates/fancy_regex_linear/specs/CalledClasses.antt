-- The classes that are written with a tree whose calls are written out, and why one of them is refused.
use Rattle.std.specs.Prelude.{◌≡◌, ◌⊎◌, ℕ, Bool, false, List, Some, chars, string_bytes}
use Rattle.std.specs.List.{Contains}
use Rattle.fancy_regex_tree.specs.Tree.{Tree, Trees, Text, concat, alt, group, look_around, repeat, atomic_group, conditional, subroutine_call, no_trees, more_trees}
use Rattle.fancy_regex_meaning.specs.Groups.{Pattern}
use Rattle.fancy_regex_meaning.specs.Sizes.{target}
use Rattle.fancy_regex_class.specs.Classes.{class_text}
use Rattle.fancy_regex_class.specs.Matchers.{RefusesText}
use Rattle.fancy_regex_info.specs.declared.error.CompileError.{CompileError}
use Rattle.fancy_regex_info.specs.declared.error.CompileError.TheVariants.{InnerError, Memory}
use Rattle.fancy_regex_linear.specs.Plain.{has_no_iteration, classes}
use Rattle.fancy_regex_linear.specs.Calls.{OfBody}
use Rattle.fancy_regex_linear.specs.Refusals.{ShowsClass}

-- a call of this group stands in the tree; definitions call nothing, nor does what is repeated no times
abbrev mutual
  pub HasCall : ℕ → Tree → Type 0
  HasCall j (subroutine_call k) = k ≡ j
  HasCall j (concat ts) = RowHasCall j ts
  HasCall j (alt ts) = RowHasCall j ts
  HasCall j (group t) = HasCall j t
  HasCall j (look_around t how) = HasCall j t
  HasCall j (atomic_group t) = HasCall j t
  HasCall j (repeat t lo hi greedy) = (has_no_iteration lo hi ≡ false) × HasCall j t
  HasCall j (conditional c a b) = HasCall j c ⊎ (HasCall j a ⊎ HasCall j b)
  HasCall j _ = ⊥

  pub RowHasCall : ℕ → Trees → Type 0
  RowHasCall j no_trees = ⊥
  RowHasCall j (more_trees t ts) = HasCall j t ⊎ RowHasCall j ts

-- a group that is called in the tree, or in the body of a group that is
pub data IsReached (groups : List Tree) (root : Tree) : ℕ → Type 0 where
  from_root : (j : ℕ) → HasCall j root → IsReached groups root j
  from_body : (i j : ℕ) (body : Tree) → IsReached groups root i → target groups i ≡ Some body → HasCall j body → IsReached groups root j

-- why the body of one of these groups has no matchers
abbrev pub IsBodyCause : Bool → List Tree → (ℕ → Type 0) → CompileError → Type 0
IsBodyCause unicode groups called (InnerError shown) =
    (j : ℕ) × called j × OfBody (λ body. ShowsClass unicode (classes body) (string_bytes shown)) (target groups j)
IsBodyCause unicode groups called Memory = Unit {0}
IsBodyCause unicode groups called _ = ⊥

-- the class is one of the tree, or of the body of a group that is called
abbrev pub IsWritten : List Tree → Tree → Text × Bool → Type 0
IsWritten groups root class =
    Contains (classes root) class ⊎ ((j : ℕ) × IsReached groups root j × OfBody (λ body. Contains (classes body) class) (target groups j))

-- The text is that of a class that is written, and `regex` refuses that class.
pub record ShowsWritten (unicode : Bool) (pattern : Pattern) (shown : List ℕ) : Type 0 where
  pub class : Text × Bool
  pub is_there : IsWritten pattern.groups pattern.tree class
  pub is_shown : chars shown ≡ class.0
  pub refused : RefusesText (class_text unicode class.1 class.0)

-- why there is no matcher for each class that is written
abbrev pub IsWrittenCause : Bool → Pattern → CompileError → Type 0
IsWrittenCause unicode pattern (InnerError shown) = ShowsWritten unicode pattern (string_bytes shown)
IsWrittenCause unicode pattern Memory = Unit {0}
IsWrittenCause unicode pattern _ = ⊥
