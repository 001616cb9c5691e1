use Rattle.std.proofs.Common.{◌∙◌}
use Rattle.std.proofs.lemmas.Bool.Decides.{Decides-at}
use Rattle.fancy_regex_tree.specs.EqualLaws.{tree_decides}
use Rattle.fancy_regex_tree.proofs.Compared.{and_true}
use Rattle.fancy_regex_tree.proofs.equal.AstNodePartialEq.eq.Goals as goal

pub returns-clause-exact : goal.returns-clause-exact
returns-clause-exact c = Decides-at _ _ (and_true c.same_node.result ∙ c.same_node.ensures 0 0) (tree_decides _ _)
