-- A compiled program may go to another thread. The toolchain writes no such proof for a type that holds a tree, since trees hold trees.
use denote.Param.Send.{IsSend, sendable}
use Rattle.std.proofs.Crossing.{crosses}
use Rattle.fancy_regex_plan.proofs.plan.Plan.TheSendSync as plan
use Rattle.fancy_regex_program.proofs.Sending.{insn_send}
use Rattle.fancy_regex_shapes.proofs.shapes.Shapes.TheSendSync as shapes
use Rattle.fancy_regex_compiled.specs.contracts.prog.Prog as program

-- as it lies in a struct
pub program_send : IsSend program.the_field.row
program_send = search (insn_send, plan.the_field_send, shapes.the_field_send, crosses, sendable) depth 60 fits 20000
