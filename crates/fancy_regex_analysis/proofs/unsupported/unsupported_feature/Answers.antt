use Rattle.std.proofs.Common.{ap, sym, ◌∙◌}
use Rattle.fancy_regex_tree.specs.Tree.{tree_of}
use Rattle.fancy_regex_analysis.specs.UnsupportedParts.{unsupported_feature_in}
use Rattle.fancy_regex_info.proofs.TreeLemmas.{tree_verb}
use Rattle.fancy_regex_analysis.proofs.unsupported.unsupported_feature.Goals as goal

pub returns-in-BacktrackingControlVerb : goal.returns-in-BacktrackingControlVerb
returns-in-BacktrackingControlVerb c =
    c.missing_verb.ensures c.args.inside
    ∙ sym (ap (unsupported_feature_in c.args.inside) (ap tree_of c.in-BacktrackingControlVerb.is ∙ tree_verb c.in-BacktrackingControlVerb.verb))
