use Rattle.fancy_regex_table.specs.Making.{parts_of, AreHomes}
use Rattle.fancy_regex_table.proofs.begun.homes_of.Given as goal

abbrev pub invariant-loop-k : goal.invariant-loop-k
invariant-loop-k l = AreHomes (parts_of l.pattern) l.columns l.homes.items
