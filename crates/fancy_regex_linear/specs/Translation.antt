-- How a pattern is translated.
use Rattle.std.specs.Prelude.{◌≡◌, ℕ, ◌+◌, ◌&&◌, true, false, Bool, List, [], ◌∷◌, ◌++◌, length, map, All, Option, Some, None, slice_get}
use Rattle.fancy_regex_tree.specs.Tree.{Tree, Trees, Text, trees, tree_of}
use Rattle.fancy_regex_tree.specs.declared.expr.Expr.{Expr}
use Rattle.fancy_regex_tree.specs.declared.expr.LookAround.{LookAround}
use Rattle.fancy_regex_meaning.specs.Groups.{group_count, row_group_count}
use Rattle.fancy_regex_class.specs.declared.class.CharClassMatcher.{CharClassMatcher}
use Rattle.fancy_regex_linear.specs.Re.{Re, nothing, shape}
use Rattle.fancy_regex_info.specs.AnalysisRelations.{AreCallSizes}
use Rattle.fancy_regex_linear.specs.Plain.{IsRegular, AreRegular, classes, row_classes, re_of, around}
use Rattle.fancy_regex_linear.specs.Program.{IsSound, never_empty}
use Rattle.fancy_regex_linear.specs.Easy.{HaveMatchers}
use Rattle.fancy_regex_linear.specs.Refusals.{IsRead}
use Rattle.fancy_regex_linear.specs.declared.callee.Callee.{Callee}
use Rattle.fancy_regex_linear.specs.declared.build.Translator.{Translator}

-- the trees of a row
abbrev pub all_trees : List Expr → Trees
all_trees es = trees (map tree_of es)

-- the matchers of these classes were appended
pub record Extends (unicode : Bool) (before after : List CharClassMatcher) (cs : List (Text × Bool)) : Type 0 where
  pub count : length after ≡ length before + length cs
  pub serve : (ds : List (Text × Bool)) → HaveMatchers unicode before ds → HaveMatchers unicode after (ds ++ cs)
  pub read : All (IsRead unicode) cs

-- the translator appended matchers of these classes
abbrev pub AddsMatchers : Translator → Translator → List (Text × Bool) → Type 0
AddsMatchers before after = Extends before.unicode before.matchers.items after.matchers.items

-- the tree is regular, whatever its calls are
abbrev pub IsWritable : Tree → Type 0
IsWritable = IsRegular true (λ j. Unit {0})

abbrev pub AreWritable : Trees → Type 0
AreWritable = AreRegular true (λ j. Unit {0})

-- what a call becomes, if it is known
abbrev pub callee_shape : Option Callee → Re
callee_shape None = nothing
callee_shape (Some made) = shape made.node

abbrev pub made_of : Option (Option Callee) → Re
made_of None = nothing
made_of (Some known) = callee_shape known

abbrev pub called_in : List (Option Callee) → ℕ → Re
called_in called j = made_of (slice_get called j)

-- whether it is known what a call becomes
abbrev pub is_known : Option (Option Callee) → Bool
is_known None = false
is_known (Some None) = false
is_known (Some (Some made)) = true

abbrev pub is_made : List (Option Callee) → ℕ → Bool
is_made called j = is_known (slice_get called j)

-- the pattern that one tree becomes, over the bodies of these groups and what calls become, with the numbers of the group that opens
-- first in it and of its first class
abbrev pub TreePattern : Type 0
TreePattern = Bool → List Tree → (ℕ → Re) → ℕ → ℕ → Tree → Re

-- a tree as a branch of a look-around
abbrev pub around_tree : LookAround → TreePattern
around_tree how unicode groups called n k t = around unicode groups called n k how (re_of unicode groups called n k t) t

-- the patterns of a row, with the numbers of the group that opens first in it and of its first class
unfoldable pub row_list : TreePattern → Bool → List Tree → (ℕ → Re) → ℕ → ℕ → List Tree → List Re
row_list one unicode groups called n k [] = []
row_list one unicode groups called n k (t ∷ ts) =
    one unicode groups called n k t ∷ row_list one unicode groups called (n + group_count t) (k + length (classes t)) ts

-- each of the patterns consumes a character
unfoldable pub all_move : List Re → Bool
all_move [] = true
all_move (x ∷ xs) = never_empty x && all_move xs

-- each of the patterns is sound
abbrev pub AreSound : List Re → Type 0
AreSound [] = Unit {0}
AreSound (x ∷ xs) = IsSound x × AreSound xs

-- The translation of these trees gave these patterns, each that of one tree, and numbered the groups and classes of the trees.
pub record BuildsRow (one : TreePattern) (before after : Translator) (ts : List Tree) (xs : List Re) : Type 0 where
  pub unicode : after.unicode ≡ before.unicode
  pub tables : (after.sizes ≡ before.sizes) × (after.called ≡ before.called)
  pub matchers : Extends before.unicode before.matchers.items after.matchers.items (row_classes (trees ts))
  pub sound : AreSound xs
  pub groups : AreWritable (trees ts) → after.next_group ≡ before.next_group + row_group_count (trees ts)
  pub patterns : AreWritable (trees ts) → (groups : List Tree) → AreCallSizes groups before.sizes.items
      → xs ≡ row_list one before.unicode groups (called_in before.called.items) before.next_group (length before.matchers.items) ts
