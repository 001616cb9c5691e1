use Rattle.std.proofs.Common.{chars, string_bytes, arith}
use Rattle.fancy_regex_tree.specs.Tree.{tree_of}
use Rattle.fancy_regex_tree.proofs.PrintedTrees.{pieces_step, branches_step, no_pieces, no_branches}
use Rattle.fancy_regex_tree.proofs.print.+print.Goals as goal

pub print_branches-loop-i-init : goal.print_branches-loop-i-init
print_branches-loop-i-init t c = no_branches (chars (string_bytes c.args.out.now))

pub print_branches-loop-i-preserved : goal.print_branches-loop-i-preserved
print_branches-loop-i-preserved t c =
    branches_step tree_of c.args.branches.now c.loop-i.i c.index-branches-i.result (chars (string_bytes c.args.out.now))
    (chars (string_bytes c.loop-i.out)) (chars (string_bytes c.print_bar.new.out)) (chars (string_bytes c.print.new.out)) (omega arith)
    c.index-branches-i.is c.loop-i.invariant c.in_ok-print_bar.ensures c.in_ok-print.ensures

pub print_pieces-loop-i-init : goal.print_pieces-loop-i-init
print_pieces-loop-i-init t c = no_pieces (chars (string_bytes c.args.out.now))

pub print_pieces-loop-i-preserved : goal.print_pieces-loop-i-preserved
print_pieces-loop-i-preserved t c =
    pieces_step tree_of c.args.pieces.now c.loop-i.i c.index-pieces-i.result (chars (string_bytes c.args.out.now))
    (chars (string_bytes c.loop-i.out)) (chars (string_bytes c.print.new.out)) (omega arith) c.index-pieces-i.is c.loop-i.invariant
    c.in_ok-print.ensures
