use Rattle.fancy_regex_table.specs.Making.{AreReadings}
use Rattle.fancy_regex_table.proofs.begun.readings_of.Given as goal

abbrev pub invariant-loop-k : goal.invariant-loop-k
invariant-loop-k l = AreReadings l.pattern.reader.states.now l.row.before l.row.own.now l.row.later.now l.readings.items
