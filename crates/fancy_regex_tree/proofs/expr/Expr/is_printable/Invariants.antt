use Rattle.std.proofs.Common.{◌≡◌, true, take}
use Rattle.std.specs.List.{list_all}
use Rattle.fancy_regex_tree.proofs.PrintableNodes.{is_printable_at}
use Rattle.fancy_regex_tree.proofs.expr.Expr.is_printable.Given as goal

abbrev pub invariant-loop-node : goal.invariant-loop-node
invariant-loop-node l = list_all is_printable_at (take l.node-index l.node-items) ≡ true
