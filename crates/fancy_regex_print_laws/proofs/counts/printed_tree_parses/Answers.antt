use Rattle.fancy_regex_tree.specs.Tree.{tree_of}
use Rattle.fancy_regex_print_laws.proofs.PrintedPartProofs.{parts_read_back}
use Rattle.fancy_regex_print_laws.proofs.ReadsBack.{printed_parses, deep_is_no_pattern, printed_is_same_pattern}
use Rattle.fancy_regex_print_laws.proofs.counts.printed_tree_parses.Goals as goal

pub returns-clause-parses : goal.returns-clause-parses
returns-clause-parses c = λ unicode ignore_numbered p few. printed_parses unicode ignore_numbered (tree_of c.args.expr.now) p c.counts_fit.ensures few

pub returns-clause-deep : goal.returns-clause-deep
returns-clause-deep c = λ unicode ignore_numbered p many. deep_is_no_pattern unicode ignore_numbered (tree_of c.args.expr.now) p c.counts_fit.ensures many

pub returns-clause-same : goal.returns-clause-same
returns-clause-same c =
    λ s unicode ignore_numbered p classes few. printed_is_same_pattern s unicode ignore_numbered (tree_of c.args.expr.now) p c.counts_fit.ensures classes few

pub returns-clause-places : goal.returns-clause-places
returns-clause-places c = λ size n unicode p. parts_read_back size n unicode (tree_of c.args.expr.now) p c.counts_fit.ensures
