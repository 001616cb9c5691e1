-- What `run` writes, and the status or fault that it returns.
use Rattle.std.specs.Prelude.{◌≡◌, ℕ, true, ◌<◌, List, length, take, Option, Result, Ok, Err, IsUtf8}
use Rattle.std.specs.Io.KnownBytes.{Appends}
use Rattle.fancy_search_run.specs.Answers.{IsDue, IsFault}
use Rattle.fancy_search_run.specs.Requests.{regex_options, reads_input}
use Rattle.fancy_search_run.specs.declared.fault.Fault.{Fault}
use Rattle.fancy_search_run.specs.declared.fault.Fault.TheVariants as faults
use Rattle.fancy_search_run.specs.declared.status.Status.{Status}
use Rattle.fancy_search_words.specs.Requests.{Command, Request, Refuses}
use Rattle.fancy_search_words.specs.declared.refusal.Refusal.TheVariants as refusals

-- a proper prefix of the bytes was written
abbrev pub AppendsPrefix : Option (List ℕ) → Option (List ℕ) → List ℕ → Type 0
AppendsPrefix old new bytes = (n : ℕ) × (n < length bytes) × Appends old new (take n bytes)

-- the bytes are a text, if the command reads them
abbrev pub IsTextFor : Command → List ℕ → Type 0
IsTextFor command bytes = reads_input command ≡ true → IsUtf8 bytes

-- the bytes that a request writes for its input, which is a text, and its status
abbrev pub IsDueFor : Request → List ℕ → List ℕ → Status → Type 0
IsDueFor request input out status = IsTextFor request.command input × IsDue (regex_options request.options) request.command input out status

-- The written bytes and the result of a call that read this input: on success all bytes of the request are written, on a write
-- fault a proper prefix of them; the other faults hold in the stated order.
abbrev pub Outcome : Request → Option (List ℕ) → Option (List ℕ) → List ℕ → Result Status Fault → Type 0
Outcome request old new input (Ok status) = (out : List ℕ) × IsDueFor request input out status × Appends old new out
Outcome request old new input (Err faults.Output) = (out : List ℕ) × (status : Status) × IsDueFor request input out status × AppendsPrefix old new out
Outcome request old new input (Err faults.NotUtf8) = (reads_input request.command ≡ true) × (IsUtf8 input → ⊥)
Outcome request old new input (Err faults.Input) = reads_input request.command ≡ true
Outcome request old new input (Err faults.Memory) = Unit {0}
Outcome request old new input (Err fault) = IsTextFor request.command input × IsFault (regex_options request.options) request.command input fault

-- The result of a call whose words give no request.
abbrev pub RefusesWords : List (List ℕ) → Result Status Fault → Type 0
RefusesWords words (Err (faults.Words t)) = Refuses words (refusals.Words t)
RefusesWords words (Err (faults.Help t)) = Refuses words (refusals.Help t)
RefusesWords words (Err faults.Memory) = Unit {0}
RefusesWords words _ = ⊥
