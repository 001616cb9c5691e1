use Rattle.fancy_regex_table.specs.Made.{AreFresh}
use Rattle.fancy_regex_table.proofs.maker.fresh_rows.Given as goal

abbrev pub invariant-loop-i : goal.invariant-loop-i
invariant-loop-i l = AreFresh l.rows.list.items l.fresh.items
