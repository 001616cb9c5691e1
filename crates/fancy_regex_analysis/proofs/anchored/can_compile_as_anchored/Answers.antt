use Rattle.std.proofs.Common.{sym, ◌∙◌}
use Rattle.fancy_regex_tree.specs.Tree.{tree_of}
use Rattle.fancy_regex_analysis.proofs.AnchorLemmas.{anchored}
use Rattle.fancy_regex_analysis.proofs.anchored.can_compile_as_anchored.Goals as goal

pub returns-clause-law : goal.returns-clause-law
returns-clause-law c = λ h. anchored (tree_of c.args.expr.now) (sym c.is_anchored.ensures ∙ h)
