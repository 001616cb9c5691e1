use Rattle.std.proofs.Common.{◌≡◌, ◌≤◌, length, take, vec_len}
use Rattle.fancy_regex_linear.specs.Re.{shape, shapes, cats, alts}
use Rattle.fancy_regex_linear.specs.Program.{emitted_both, emitted_both_times, emitted_both_upto, with_branches_both}
use Rattle.fancy_regex_linear.proofs.emit_both.+both.Given as goal

abbrev pub invariant-emit_row_both-parts : goal.invariant-emit_row_both-parts
invariant-emit_row_both-parts l = record {
  longer : vec_len l.fn.states ≤ vec_len l.states;
  inside : l.left ≤ length l.parts;
  made : emitted_both (cats (shapes (take l.left l.parts))) l.states.items l.first l.second
      ≡ emitted_both (cats (shapes l.parts)) l.fn.states.items l.same l.moved;
}

abbrev pub decreases-emit_row_both-parts : goal.decreases-emit_row_both-parts
decreases-emit_row_both-parts l = l.left

abbrev pub invariant-emit_branches_both-branches : goal.invariant-emit_branches_both-branches
invariant-emit_branches_both-branches l = record {
  longer : vec_len l.fn.states ≤ vec_len l.states;
  inside : l.left ≤ length l.parts;
  made : with_branches_both (shapes (take l.left l.parts)) l.same l.moved (l.states.items, l.first, l.second)
      ≡ emitted_both (alts (shapes l.parts)) l.fn.states.items l.same l.moved;
}

abbrev pub decreases-emit_branches_both-branches : goal.decreases-emit_branches_both-branches
decreases-emit_branches_both-branches l = l.left

abbrev pub invariant-emit_times_both-copies : goal.invariant-emit_times_both-copies
invariant-emit_times_both-copies l = record {
  longer : vec_len l.fn.states ≤ vec_len l.states;
  made : emitted_both_times (emitted_both (shape l.node)) l._copy l.fn.states.items l.same l.moved ≡ (l.states.items, l.first, l.second);
}

abbrev pub invariant-emit_upto_both-copies : goal.invariant-emit_upto_both-copies
invariant-emit_upto_both-copies l = record {
  longer : vec_len l.fn.states ≤ vec_len l.states;
  made : emitted_both_upto l.greedy (emitted_both (shape l.node)) l._copy l.fn.states.items l.same l.moved ≡ (l.states.items, l.first, l.second);
}
