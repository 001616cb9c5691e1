use Rattle.std.proofs.Common.{◌≡◌, ◌<◌, ℕ, Some, length}
use Rattle.std.specs.Prelude.{slice_get}
use Rattle.fancy_regex_program.specs.Ops.{Op, ops_of}
use Rattle.fancy_regex_program.specs.ValidPrograms.{IsValidOp}
use Rattle.fancy_regex_program.proofs.validity.are_valid.Given as goal

abbrev pub invariant-loop-pc : goal.invariant-loop-pc
invariant-loop-pc l = (k : ℕ) (o : Op) → k < l.pc → slice_get (ops_of l.body) k ≡ Some o → IsValidOp (length (ops_of l.body)) l.slots k o
