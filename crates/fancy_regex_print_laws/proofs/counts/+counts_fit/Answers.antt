use Rattle.fancy_regex_tree.specs.Tree.{tree_of}
use Rattle.fancy_regex_print_laws.proofs.CountBounds.{fit_step, none_fit, fit_end}
use Rattle.fancy_regex_print_laws.proofs.counts.+counts_fit.Goals as goal

pub all_counts_fit-loop-i-init : goal.all_counts_fit-loop-i-init
all_counts_fit-loop-i-init t c = none_fit

pub all_counts_fit-loop-i-preserved : goal.all_counts_fit-loop-i-preserved
all_counts_fit-loop-i-preserved t c =
    fit_step tree_of c.args.children.now c.loop-i.i c.index-children-i.result c.loop-i-test.true c.index-children-i.is c.loop-i.invariant c.counts_fit.ensures

pub all_counts_fit-returns : goal.all_counts_fit-returns
all_counts_fit-returns t c = fit_end tree_of c.args.children.now c.loop-i.i c.loop-i-test.false c.loop-i.invariant
