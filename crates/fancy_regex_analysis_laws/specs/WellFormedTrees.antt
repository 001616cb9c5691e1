-- Which parsed trees are well-formed.
use Rattle.std.specs.Prelude.{◌≡◌, ◌↔◌, false, Ok}
use Rattle.std.specs.BTreeSet.{contains}
use Rattle.std.specs.Ordering.{nat_cmp}
use Rattle.fancy_regex_tree.specs.Tree.{Text, tree_of}
use Rattle.fancy_regex_tree.specs.Parse.{Options, parse}
use Rattle.fancy_regex_tree.specs.ParseResult.{IsParsed}
use Rattle.fancy_regex_tree.specs.declared.expr_tree.ExprTree.{ExprTree}
use Rattle.fancy_regex_analysis.specs.NodeErrors.{has_reversed_repeat}
use Rattle.fancy_regex_analysis.specs.WellFormed.{IsWellFormed}

-- its nodes are well-formed, and its summary fields agree with them
abbrev pub IsWellFormedTree : ExprTree → Type 0
IsWellFormedTree e = IsWellFormed (tree_of e.expr) e.total_groups e.contains_subroutines (contains nat_cmp e.backrefs)

-- A tree that is parsed is well-formed exactly if no repeat in it has a least count above its greatest.
abbrev pub ParsedTreesAreWellFormed : Type 0
ParsedTreesAreWellFormed = (o : Options) (t : Text) (e : ExprTree) → IsParsed (Ok e) (parse o t) →
    IsWellFormedTree e ↔ (has_reversed_repeat (tree_of e.expr) ≡ false)
