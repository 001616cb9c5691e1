use Rattle.std.proofs.Common.{◌<◌, ◌^◌, length, ap, ◌∙◌, rules}
use Rattle.fancy_regex_tree.specs.Tree.{tree_of}
use Rattle.fancy_regex_info.specs.AnalysisRelations.{mark_at}
use Rattle.fancy_regex_info.proofs.AnalyzeTreeLemmas.{whole}
use Rattle.fancy_regex_info.proofs.tree_analysis.analyze_tree.Goals as goal

pub returns : goal.returns
returns c =
    let few : length c.args.groups.now < 2 ^ 64 = search rules in
    whole c.args.context.explicit_capture_group_0 (tree_of c.args.expr.now) c.args.groups.now c.deref.result.now
    c.args.sizes.now c.analyze_node.result c.first_group-first.result c.requires.bodies c.requires.known
    (λ k. ap (λ bs. mark_at bs k) c.deref.ensures.value ∙ c.in_ok-read.ensures k)
    (c.first_group-first.ensures (tree_of c.args.expr.now)) few c.analyze_node.ensures
