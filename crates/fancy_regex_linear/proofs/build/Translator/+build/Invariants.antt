use Rattle.std.proofs.Common.{◌≡◌, map, take}
use Rattle.fancy_regex_tree.specs.Tree.{tree_of}
use Rattle.fancy_regex_linear.specs.Re.{shapes, cats}
use Rattle.fancy_regex_linear.specs.Program.{never_empty}
use Rattle.fancy_regex_linear.specs.Plain.{re_of}
use Rattle.fancy_regex_linear.specs.Translation.{all_move, around_tree, BuildsRow}
use Rattle.fancy_regex_linear.proofs.PlainLemmas.{AllOf, IsStill}
use Rattle.fancy_regex_linear.proofs.build.Translator.+build.Given as goal

abbrev pub invariant-row-loop-i : goal.invariant-row-loop-i
invariant-row-loop-i l = record {
  built : BuildsRow re_of l.fn.self l.self (map tree_of (take l.i l.children)) (shapes l.parts.items);
  moves : l.moves ≡ never_empty (cats (shapes l.parts.items));
}

abbrev pub invariant-branches-loop-i : goal.invariant-branches-loop-i
invariant-branches-loop-i l = record {
  built : BuildsRow re_of l.fn.self l.self (map tree_of (take l.i l.children)) (shapes l.parts.items);
  moves : l.moves ≡ all_move (shapes l.parts.items);
}

abbrev pub invariant-behind_branches-loop-i : goal.invariant-behind_branches-loop-i
invariant-behind_branches-loop-i l = record {
  built : BuildsRow (around_tree l.look) l.fn.self l.self (map tree_of (take l.i l.children)) (shapes l.parts.items);
  still : AllOf IsStill (shapes l.parts.items);
}
