-- What a read says of its source, the faults of reading, and what holds once a call has read its input.
use Rattle.std.specs.Prelude.{◌≡◌, ℕ, zero, suc, Result, Ok, Err}
use Rattle.fancy_search_run.specs.declared.fault.Fault.{Fault}
use Rattle.fancy_search_run.specs.declared.fault.Fault.TheVariants as faults
use Rattle.fancy_search_run.specs.declared.source.LastRead.{LastRead}
use Rattle.fancy_search_run.specs.declared.source.LastRead.TheVariants.{Bytes, End, Failure}
use Rattle.fancy_search_run.specs.declared.status.Status.{Status}

-- what a read with room for some bytes gave
abbrev pub last_read : {E : Type 0} → Result ℕ E → LastRead
last_read (Ok zero) = End
last_read (Ok (suc n)) = Bytes
last_read (Err e) = Failure

-- a fault of reading: `Input` only where a read failed; or `Memory`
abbrev pub IsReadFault : LastRead → Fault → Type 0
IsReadFault last faults.Input = last ≡ Failure
IsReadFault last faults.Memory = Unit {0}
IsReadFault last _ = ⊥

-- What holds once a call that reads its input is over: the first fact after `Input`, and the second after an answer and each other
-- fault but `Memory`, which may come at any time.
abbrev pub AfterReading : Type 0 → Type 0 → Result Status Fault → Type 0
AfterReading failed ended (Err faults.Input) = failed
AfterReading failed ended (Err faults.Memory) = Unit {0}
AfterReading failed ended _ = ended
