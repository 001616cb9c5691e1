use Rattle.std.proofs.Common.{◌≤◌, length}
use Rattle.std.specs.Prelude.{Contains}
use Rattle.fancy_regex_states.proofs.FirstLemmas.{LeadInto}
use Rattle.fancy_regex_states.proofs.first.reached.Given as goal

abbrev pub invariant-loop-next : goal.invariant-loop-next
invariant-loop-next l = record {
  entry : Contains l.found.items l.entry;
  inside : l.next ≤ length l.found.items;
  into : LeadInto l.states l.found.items l.next;
}
