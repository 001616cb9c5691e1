use Rattle.std.proofs.Common.{arith, rules}
use Rattle.std.specs.BTreeSet.{contains}
use Rattle.std.specs.Ordering.{nat_cmp}
use Rattle.fancy_regex_tree.specs.ReferenceSummary.{back_group}
use Rattle.fancy_regex_tree.specs.Tree.{Tree, tree_of}
use Rattle.fancy_regex_analysis.specs.WellFormed.{is_unlisted_reference}
use Rattle.fancy_regex_analysis.proofs.DescendantLemmas.{found_in_tree}
use Rattle.fancy_regex_analysis.proofs.well_formed.has_unlisted_reference.Goals as goal

pub returns : goal.returns
returns c =
    let test = λ (u : Tree). is_unlisted_reference c.args.tree.now.total_groups (contains nat_cmp c.args.tree.now.backrefs) (back_group u) in
    found_in_tree _ _ test c.any_node.result (tree_of c.args.tree.now.expr) c.any_node.ensures
    (λ node answer h. let k = h.says.met in let s = h.shows in first_of (cc, search rules, grind arith))
