use Rattle.fancy_regex_tree.specs.Tree.{tree_of}
use Rattle.fancy_regex_tree.proofs.PrintableNodes.{branches-leb}
use Rattle.fancy_regex_tree.proofs.printable.has_two_branches.Goals as goal

pub returns : goal.returns
returns c = branches-leb tree_of c.args.branches.now
