use Rattle.std.proofs.Common.{◌≡◌, ◌≤◌, vec_len}
use Rattle.fancy_regex_linear.specs.Search.{top_first, resume_result}
use Rattle.fancy_regex_linear.proofs.backtrack.BacktrackState.pop_explore.Given as goal

abbrev pub invariant-loop-frame : goal.invariant-loop-frame
invariant-loop-frame l = record {
  same : resume_result (top_first l.fn.self.stack.items) l.fn.self.slots.items ≡ resume_result (top_first l.self.stack.items) l.self.slots.items;
  shorter : vec_len l.self.stack ≤ vec_len l.fn.self.stack;
  slots : vec_len l.self.slots ≡ vec_len l.fn.self.slots;
}

abbrev pub decreases-loop-frame : goal.decreases-loop-frame
decreases-loop-frame l = vec_len l.self.stack
