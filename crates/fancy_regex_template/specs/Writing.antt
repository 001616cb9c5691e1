-- What a writer holds after a write that failed, and when one failed.
use Rattle.std.specs.Prelude.{ℕ, ◌<◌, Bool, true, not, ◌==◌, ◌&&◌, List, length, take, Option, Result, Ok, Err}
use Rattle.std.specs.Io.KnownBytes.{Appends}

-- a beginning of the bytes was written, perhaps none of them, and some are left
abbrev pub AppendsBeginning : Option (List ℕ) → Option (List ℕ) → List ℕ → Type 0
AppendsBeginning old new bytes = (n : ℕ) × (n < length bytes) × Appends old new (take n bytes)

-- a write returned an error, or took no byte although there were some
abbrev pub fails_to_write : {E : Type 0} → Result ℕ E → List ℕ → Bool
fails_to_write (Ok n) bytes = (n == 0) && not (length bytes == 0)
fails_to_write (Err e) bytes = true
