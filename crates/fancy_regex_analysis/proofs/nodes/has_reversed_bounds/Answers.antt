use Rattle.std.proofs.Common.{arith, rules}
use Rattle.fancy_regex_tree.specs.Tree.{tree_of}
use Rattle.fancy_regex_analysis.specs.NodeErrors.{is_reversed_repeat}
use Rattle.fancy_regex_analysis.proofs.DescendantLemmas.{found_in_tree}
use Rattle.fancy_regex_analysis.proofs.nodes.has_reversed_bounds.Goals as goal

pub returns : goal.returns
returns c =
    found_in_tree _ _ is_reversed_repeat c.any_node.result (tree_of c.args.expr.now) c.any_node.ensures
    (λ node answer h. let k = h.says.met in let s = h.shows in first_of (cc, search rules, grind arith))
