use Rattle.std.proofs.Common.{◌≡◌, length}
use Rattle.fancy_regex_table.specs.Making.{parts_of}
use Rattle.fancy_regex_table.proofs.MakingLemmas.{AreBegun}
use Rattle.fancy_regex_table.proofs.begun.home_of.Given as goal

abbrev pub invariant-loop-k : goal.invariant-loop-k
invariant-loop-k l = record {
  long : length l.begun.items ≡ l.k;
  right : AreBegun (parts_of l.pattern) l.columns l.before l.begun.items;
}
