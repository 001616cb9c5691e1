use Rattle.std.proofs.Common.{◌≡◌, ◌≤◌, vec_len}
use Rattle.fancy_regex_linear.specs.Program.{emitted_back}
use Rattle.fancy_regex_linear.proofs.emit.emit_back.Given as goal

abbrev pub invariant-steps : goal.invariant-steps
invariant-steps l = record {
  longer : vec_len l.fn.states ≤ vec_len l.states;
  made : emitted_back l._step l.fn.states.items l.next ≡ (l.states.items, l.entry);
}
