use Rattle.std.proofs.Common.{◌≡◌, length}
use Rattle.fancy_regex_table.specs.Tables.{AreBegins}
use Rattle.fancy_regex_table.proofs.rows.begins_of.Given as goal

abbrev pub invariant-loop-k : goal.invariant-loop-k
invariant-loop-k l = record {
  long : length l.begins.items ≡ l.k;
  right : AreBegins l.columns l.fresh l.begins.items;
}
