use Rattle.std.proofs.Common.{◌≡◌, IfOk, ap, subst, ◌∙◌}
use Rattle.fancy_regex_tree.specs.Tree.{Tree}
use Rattle.fancy_regex_info.specs.AnalysisRelations.{node_of}
use Rattle.fancy_regex_info.specs.Infos.{known, no_infos, more_infos, info_of}
use Rattle.fancy_regex_info.specs.PropertyRules.{repeat_properties}
use Rattle.fancy_regex_info.proofs.analyze_node.repeat_parts.Goals as goal

pub returns : goal.returns
returns c =
    subst (λ f. IfOk c.one_part.result (λ parts. (t : Tree) → node_of parts t ≡ known f t (more_infos (info_of c.args.child) no_infos)))
    (c.repeat_properties-properties.ensures ∙ ap (repeat_properties c.args.lo c.args.hi) c.properties.ensures) c.one_part.ensures
