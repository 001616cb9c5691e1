-- Small sets of leaves.
use Rattle.std.specs.Prelude.{◌≡◌, ◌⊎◌, ℕ, Bool, true, false, not, ◌&&◌, ◌||◌, List, Option, Some, None, ◌==◌, if◌then◌else◌}
use Rattle.regex_hir.specs.Text.{is_some_and}
use Rattle.fancy_regex_class.specs.declared.class.CharClassMatcher.{CharClassMatcher}
use Rattle.fancy_regex_states.specs.CharTests.{leaf_matches_char}
use Rattle.fancy_regex_states.specs.declared.atom.Leaf.{Leaf}
use Rattle.fancy_regex_states.specs.declared.atom.Leaf.TheVariants.{Any, Char, Folded, Class}
use Rattle.fancy_regex_table.specs.declared.leaf_set.LeafSet.{LeafSet}

abbrev pub same_bool : Bool → Bool → Bool
same_bool true b = b
same_bool false b = not b

abbrev pub same_leaf : Leaf → Leaf → Bool
same_leaf (Any newline crlf) (Any other_newline other_crlf) = same_bool newline other_newline && same_bool crlf other_crlf
same_leaf (Char c) (Char d) = c == d
same_leaf (Folded c) (Folded d) = c == d
same_leaf (Class k) (Class l) = k == l
same_leaf _ _ = false

abbrev pub is_leaf : Option Leaf → Leaf → Bool
is_leaf None leaf = false
is_leaf (Some found) leaf = same_leaf found leaf

-- the leaf is in the set
abbrev pub has_leaf : LeafSet → Leaf → Bool
has_leaf set leaf = is_leaf set.first leaf || is_leaf set.second leaf || is_leaf set.third leaf || is_leaf set.fourth leaf

abbrev pub HasLeaf : LeafSet → Leaf → Type 0
HasLeaf set leaf = (set.first ≡ Some leaf) ⊎ (set.second ≡ Some leaf) ⊎ (set.third ≡ Some leaf) ⊎ (set.fourth ≡ Some leaf)

-- it has all leaves of the other
abbrev pub HasAll : LeafSet → LeafSet → Type 0
HasAll less more = (leaf : Leaf) → HasLeaf less leaf → HasLeaf more leaf

abbrev pub no_leaves : LeafSet
no_leaves = record { first = None; second = None; third = None; fourth = None }

-- the leaf, if it matches the character
abbrev pub if_matched : Bool → List CharClassMatcher → Option Leaf → Option ℕ → Option Leaf
if_matched unicode matchers None c = None
if_matched unicode matchers (Some leaf) c = if is_some_and c (leaf_matches_char unicode matchers leaf) then Some leaf else None

-- those that match the character
abbrev pub matching_set : Bool → List CharClassMatcher → LeafSet → Option ℕ → LeafSet
matching_set unicode matchers set c = record {
  first = if_matched unicode matchers set.first c;
  second = if_matched unicode matchers set.second c;
  third = if_matched unicode matchers set.third c;
  fourth = if_matched unicode matchers set.fourth c;
}
