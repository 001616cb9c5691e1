use Rattle.std.proofs.Common.{◌≡◌, take}
use Rattle.fancy_regex_linear.proofs.FactCodeLemmas.{parts_of}
use Rattle.fancy_regex_linear.proofs.facts.+facts.Given as goal

abbrev pub invariant-facts_of_row-loop-child : goal.invariant-facts_of_row-loop-child
invariant-facts_of_row-loop-child l = l.parts ≡ parts_of l.calls (take l.child-index l.children)
