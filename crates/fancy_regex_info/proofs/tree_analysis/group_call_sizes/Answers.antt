use Rattle.std.proofs.Common.{false, get_or, length, map, ap, ◌∙◌}
use Rattle.fancy_regex_tree.specs.Tree.{tree_of}
use Rattle.fancy_regex_info.specs.Reachability.{rows}
use Rattle.fancy_regex_info.specs.Views.{body_tree, pattern_in}
use Rattle.fancy_regex_info.proofs.AnalyzeTreeLemmas.{sizes_known_of}
use Rattle.fancy_regex_info.proofs.tree_analysis.group_call_sizes.Goals as goal

pub returns : goal.returns
returns c =
    sizes_known_of c.deref.result.now (pattern_in c.args.explicit (tree_of c.args.expr.now)).groups c.deref-2.result.now c.deref-3.result.now c.call_sizes.result
    (ap (map body_tree) c.deref.ensures.value ∙ c.in_ok-groups.ensures) (ap rows c.deref-2.ensures.value ∙ c.in_ok-calls.ensures)
    (ap length c.deref-3.ensures.value ∙ c.in_ok-recursive.ensures.length)
    (λ k lt. ap (λ bs. get_or bs k false) c.deref-3.ensures.value ∙ c.in_ok-recursive.ensures.marks k lt) c.call_sizes.ensures
