use Rattle.std.proofs.lemmas.Bool.Decides.{Decides-at}
use Rattle.fancy_regex_tree.specs.EqualLaws.{tree_decides}
use Rattle.fancy_regex_tree.proofs.equal.AbsentPartialEq.eq.Goals as goal

pub returns-clause-exact : goal.returns-clause-exact
returns-clause-exact c = Decides-at _ _ c.same_absent.ensures (tree_decides _ _)
