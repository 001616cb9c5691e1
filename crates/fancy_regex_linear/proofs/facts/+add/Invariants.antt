use Rattle.std.proofs.Common.{◌≡◌, ◌++◌, take}
use Rattle.fancy_regex_linear.proofs.FactCodeLemmas.{parts_of, found_of}
use Rattle.fancy_regex_linear.proofs.facts.+add.Given as goal

abbrev pub invariant-add_row_calls-loop-child : goal.invariant-add_row_calls-loop-child
invariant-add_row_calls-loop-child l = record {
  parts : l.parts ≡ parts_of l.calls (take l.child-index l.children);
  found : l.found.items ≡ l.fn.found.items ++ found_of l.calls (take l.child-index l.children);
}
