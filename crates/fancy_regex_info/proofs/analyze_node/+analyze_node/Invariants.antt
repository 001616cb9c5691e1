use Rattle.std.proofs.Common.{map, take}
use Rattle.fancy_regex_tree.specs.Tree.{tree_of, trees}
use Rattle.fancy_regex_info.specs.Infos.{infos, info_of}
use Rattle.fancy_regex_info.specs.AnalysisRelations.{AreAnalysesOf}
use Rattle.fancy_regex_info.proofs.analyze_node.+analyze_node.Given as goal

abbrev pub invariant-analyze_row-loop-part : goal.invariant-analyze_row-loop-part
invariant-analyze_row-loop-part l =
    AreAnalysesOf l.calls l.read l.start (trees (map tree_of (take l.part-index l.parts))) (infos (map info_of l.infos.items)) l.end
