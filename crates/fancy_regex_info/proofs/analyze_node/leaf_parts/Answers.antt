use Rattle.std.proofs.Common.{◌≡◌, ap, ◌∙◌, not, rules, true, map}
use Rattle.fancy_regex_tree.specs.Tree.{Tree, tree_of}
use Rattle.fancy_regex_info.specs.PropertyRules.{leaf}
use Rattle.fancy_regex_info.specs.Infos.{known, infos, info_of, properties_of}
use Rattle.fancy_regex_info.specs.AnalysisRelations.{is_leaf, mark_at}
use Rattle.fancy_regex_info.proofs.AnalyzeNodeLemmas.{arm_leaf}
use Rattle.fancy_regex_info.proofs.analyze_node.leaf_parts.Goals as goal

pub returns : goal.returns
returns c = λ read groups knows fits.
    let root : Tree = tree_of c.args.expr.now in
    let is : is_leaf root ≡ true = search rules in
    ap (λ xs. known (properties_of c.leaf.result) root (infos (map info_of xs))) c.new.ensures.items
    ∙ arm_leaf c.args.calls.now read c.args.start root c.is_easy_leaf.result (properties_of c.leaf.result) is
    (c.is_easy_leaf.ensures (mark_at read) c.args.start c.requires)
    (c.leaf.ensures ∙ ap (λ s. leaf c.args.start s (not c.is_easy_leaf.result)) c.size_in.ensures) groups knows fits
