-- A handle may go to another thread: it owns nothing, or the box of a value that may.
use mathlib.Core.Bool.{Bool}
use mir.Raw.{raw}
use base.Shift.{Keyless}
use denote.Memory.{lone}
use denote.RawPtr.{Ptr}
use denote.Struct.Struct.{exits_of}
use denote.Struct.Owning.{shape, fields, to}
use denote.Param.Send.{IsSend, AllSend, owning_send, struct_send, sendable}
use Rattle.std.proofs.Crossing as heap
use Rattle.core.specs.declared.option.Option.{Option}
use Rattle.core.specs.declared.option.Option.TheVariants.{None, Some}
use Rattle.std_alloc.proofs.SendSync.{quiet, lies}
use Rattle.fancy_regex_meta.proofs.Sending.{regex_send}
use Rattle.fancy_regex_ffi.proofs.kept_memory.KeptMemory.TheSendSync as memory
use Rattle.fancy_regex_ffi.specs.Handles.{owns_if_live, token}
use Rattle.fancy_regex_ffi.specs.contracts.contents.Contents.{the_row as contents_row}
use Rattle.fancy_regex_ffi.proofs.fault.CallError.TheSendSync as fault
use Rattle.fancy_regex_ffi.specs.contracts.handle.Handle.{the_row, the_type}

-- what a handle holds, of which the toolchain writes no such proof, since a program may hold a tree
contents_send : IsSend contents_row
contents_send = search (regex_send, fault.the_field_send, memory.the_send, heap.crosses, sendable) depth 60 fits 20000

owned : (p : Ptr) (b : Bool) (o : Option contents_row.Denot) → Keyless (owns_if_live token contents_row p b o)
unfolding owns_if_live
owned p b None = tt
owned p b (Some x) = (tt, (lies contents_row contents_send p x, heap.frees.frees (record { memory = record { seal = tt } }) (raw (lone contents_row.mir)) p))

pub send : IsSend the_row
send =
    let all : AllSend (fields the_type) = (search sendable, (search sendable, tt)) in
    owning_send the_type all (λ d. owned d.at d.live d.contents) (λ k. quiet (to the_type) (exits_of k (fields the_type)) ((struct_send (shape the_type) all).leaving k))
