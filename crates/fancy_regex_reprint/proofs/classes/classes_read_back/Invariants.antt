use Rattle.std.proofs.Common.{◌≡◌, true, take}
use Rattle.std.specs.List.{list_all}
use Rattle.fancy_regex_reprint.proofs.ClassNodes.{class_reads_back_at}
use Rattle.fancy_regex_reprint.proofs.classes.classes_read_back.Given as goal

abbrev pub invariant-loop-node : goal.invariant-loop-node
invariant-loop-node l = list_all class_reads_back_at (take l.node-index l.node-items) ≡ true
