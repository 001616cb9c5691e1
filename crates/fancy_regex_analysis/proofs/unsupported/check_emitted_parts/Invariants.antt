use Rattle.std.proofs.Common.{◌+◌, map, vec_len}
use Rattle.fancy_regex_tree.specs.Tree.{tree_of}
use Rattle.fancy_regex_meaning.specs.Sizes.{size_with}
use Rattle.fancy_regex_analysis.specs.UnsupportedParts.{is_unsupported}
use Rattle.fancy_regex_info.specs.Views.{size_at, body_tree}
use Rattle.fancy_regex_analysis.proofs.WorklistLemmas.{Progress, left}
use Rattle.fancy_regex_analysis.proofs.unsupported.check_emitted_parts.Given as goal

abbrev pub invariant-loop-call : goal.invariant-loop-call
invariant-loop-call l =
    Progress (map body_tree l.groups) (tree_of l.expr) (is_unsupported (size_with (size_at l.sizes))) l.met.items l.open.items

abbrev pub decreases-loop-call : goal.decreases-loop-call
decreases-loop-call l = left l.met.items (map body_tree l.groups) + vec_len l.open
