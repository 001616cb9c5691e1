-- The normal form of a tree has the same groups and matches as the tree. It is the tree that its printed text parses to.
use Rattle.std.specs.Prelude.{◌≡◌, ℕ, true, List}
use Rattle.fancy_regex_tree.specs.Tree.{Tree}
use Rattle.fancy_regex_tree.specs.NormalForm.{normal_form}
use Rattle.fancy_regex_tree.specs.Printable.{is_printable, classes_read_back}
use Rattle.fancy_regex_meaning.specs.Groups.{group_count, pattern_of}
use Rattle.fancy_regex_meaning.specs.Ways.{Setting, MatchState, ways}
use Rattle.fancy_regex_meaning.specs.Searches.{Options, Search, Input, first_match, all_items}

-- the normal form of any tree has as many groups as the tree
abbrev pub NormalFormKeepsGroups : Type 0
NormalFormKeepsGroups = (t : Tree) → group_count (normal_form t) ≡ group_count t

-- The normal form has the same ordered matches from each position, with the same group numbers. A printable tree has no subroutine call, so
-- the groups of the surrounding patterns do not matter.
abbrev pub NormalFormKeepsWays : Setting → Type 0
NormalFormKeepsWays s = (t : Tree) (groups others : List Tree) (n : ℕ) (w : MatchState) → is_printable t ≡ true → classes_read_back t ≡ true →
    ways s groups n t w ≡ ways s others n (normal_form t) w

-- each search has the same first match
abbrev pub NormalFormKeepsFirstMatch : Setting → Type 0
NormalFormKeepsFirstMatch s = (t : Tree) (find : Search) → is_printable t ≡ true → classes_read_back t ≡ true →
    first_match s (pattern_of t) find ≡ first_match s (pattern_of (normal_form t)) find

-- each iteration has the same items
abbrev pub NormalFormKeepsItems : Setting → Type 0
NormalFormKeepsItems s = (t : Tree) (options : Options) (input : Input) → is_printable t ≡ true → classes_read_back t ≡ true →
    all_items s (pattern_of t) options input ≡ all_items s (pattern_of (normal_form t)) options input
