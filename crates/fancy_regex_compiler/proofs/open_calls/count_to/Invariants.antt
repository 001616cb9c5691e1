use Rattle.std.proofs.Common.{◌+◌, ◌-◌, List, ℕ}
use Rattle.std.specs.Prelude.{vec_len}
use Rattle.fancy_regex_compiler.specs.Opened.{AreCounts}
use Rattle.fancy_regex_compiler.proofs.open_calls.count_to.Given as goal

abbrev pub invariant-zeros : goal.invariant-zeros
invariant-zeros l = (groups : List ℕ) → AreCounts l.fn.counts.items groups → AreCounts l.counts.items groups

abbrev pub decreases-zeros : goal.decreases-zeros
decreases-zeros l = l.group + 1 - vec_len l.counts
