use Rattle.std.proofs.Common.{take, Contains}
use Rattle.fancy_regex_states.specs.declared.atom.Leaf.{Leaf}
use Rattle.fancy_regex_table.specs.Questions.{IsAskedIn, KeepsQuestions}
use Rattle.fancy_regex_table.proofs.question.add_leaves.Given as goal

abbrev pub invariant-loop-i : goal.invariant-loop-i
invariant-loop-i l = record {
  kept : KeepsQuestions l.fn.questions.items l.questions.items;
  asked : (leaf : Leaf) → Contains (take l.i l.leaves) leaf → IsAskedIn l.reader.unicode l.reader.matchers.now l.questions.items leaf;
}
