use Rattle.std.proofs.Common.{◌≡◌, ◌≤◌, length, take, vec_len}
use Rattle.fancy_regex_linear.specs.Re.{shape, shapes, cats, alts}
use Rattle.fancy_regex_linear.specs.Program.{emitted, emitted_times, emitted_upto, with_branches}
use Rattle.fancy_regex_linear.proofs.emit.+emit.Given as goal

abbrev pub invariant-emit_row-parts : goal.invariant-emit_row-parts
invariant-emit_row-parts l = record {
  longer : vec_len l.fn.states ≤ vec_len l.states;
  inside : l.left ≤ length l.parts;
  made : emitted (cats (shapes (take l.left l.parts))) l.states.items l.entry ≡ emitted (cats (shapes l.parts)) l.fn.states.items l.next;
}

abbrev pub decreases-emit_row-parts : goal.decreases-emit_row-parts
decreases-emit_row-parts l = l.left

abbrev pub invariant-emit_branches-branches : goal.invariant-emit_branches-branches
invariant-emit_branches-branches l = record {
  longer : vec_len l.fn.states ≤ vec_len l.states;
  inside : l.left ≤ length l.parts;
  made : with_branches (shapes (take l.left l.parts)) l.next (l.states.items, l.entry) ≡ emitted (alts (shapes l.parts)) l.fn.states.items l.next;
}

abbrev pub decreases-emit_branches-branches : goal.decreases-emit_branches-branches
decreases-emit_branches-branches l = l.left

abbrev pub invariant-emit_times-copies : goal.invariant-emit_times-copies
invariant-emit_times-copies l = record {
  longer : vec_len l.fn.states ≤ vec_len l.states;
  made : emitted_times (emitted (shape l.node)) l._copy l.fn.states.items l.next ≡ (l.states.items, l.entry);
}

abbrev pub invariant-emit_upto-copies : goal.invariant-emit_upto-copies
invariant-emit_upto-copies l = record {
  longer : vec_len l.fn.states ≤ vec_len l.states;
  made : emitted_upto l.greedy (emitted (shape l.node)) l._copy l.fn.states.items l.next ≡ (l.states.items, l.entry);
}
