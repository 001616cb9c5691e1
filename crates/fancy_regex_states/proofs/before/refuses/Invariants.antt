use Rattle.std.proofs.Common.{◌≤◌, length}
use Rattle.std.specs.Prelude.{Contains}
use Rattle.fancy_regex_states.proofs.BeforeLemmas.{LeadAfterInto}
use Rattle.fancy_regex_states.proofs.before.refuses.Given as goal

abbrev pub invariant-loop-next : goal.invariant-loop-next
invariant-loop-next l = record {
  entry : Contains l.found.items l.entry;
  inside : l.next ≤ length l.found.items;
  have : LeadAfterInto l.before.unicode l.before.matchers.now l.states l.entry l.before.character l.found.items l.next;
}
