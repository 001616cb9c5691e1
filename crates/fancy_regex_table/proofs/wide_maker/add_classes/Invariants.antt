use Rattle.fancy_regex_table.specs.Alphabets.{AreKnown, KeepsSamples}
use Rattle.fancy_regex_table.proofs.wide_maker.add_classes.Given as goal

abbrev pub invariant-loop-row : goal.invariant-loop-row
invariant-loop-row l = record {
  kept : KeepsSamples l.fn.samples.items l.samples.items;
  known : AreKnown l.tests.reader.now.unicode l.tests.reader.now.matchers.now l.tests.leaves.now l.tests.asked l.samples.items l.questions l.by_answers;
}
