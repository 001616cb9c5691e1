-- A compiled pattern may go to another thread, as its program may. The toolchain writes no such proof, since a program may hold a tree.
use denote.Param.Send.{IsSend, sendable}
use Rattle.std.proofs.Crossing.{crosses}
use Rattle.std.proofs.MapsCrossing as maps
use Rattle.fancy_regex_linear.proofs.easy.Easy.TheSendSync as easy
use Rattle.fancy_regex_compiler.proofs.Sending.{program_send}
use Rattle.fancy_regex_regular.proofs.regular.Regular.TheSendSync as states
use Rattle.fancy_regex_meta.proofs.options.RegexOptions.TheSendSync as options
use Rattle.fancy_regex_meta.specs.contracts.meta_regex.MetaRegex as regex

-- a compiled pattern, as it lies in a struct
pub regex_send : IsSend regex.the_field.row
regex_send = search (program_send, easy.the_field_send, states.the_field_send, options.the_field_send, maps.crosses, crosses, sendable) depth 60 fits 20000
