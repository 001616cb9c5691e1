use Rattle.std.proofs.Common.{◌≡◌, map}
use Rattle.fancy_regex_program.specs.Assembled.{resolved}
use Rattle.fancy_regex_program.specs.Ops.{ops_of}
use Rattle.fancy_regex_compiler.specs.Kept.{table_of}
use Rattle.fancy_regex_compiler.proofs.calls.resolve.Given as goal

abbrev pub invariant-loop-insn : goal.invariant-loop-insn
invariant-loop-insn l = ops_of l.all.items ≡ map (resolved (table_of l.places)) (ops_of l.yielded)
