-- When a write failed.
use Rattle.std.specs.Prelude.{ℕ, Bool, true, not, ◌==◌, ◌&&◌, List, length, Result, Ok, Err}

-- a write returned an error, or took no byte although there were some
abbrev pub fails_to_write : {E : Type 0} → Result ℕ E → List ℕ → Bool
fails_to_write (Ok n) bytes = (n == 0) && not (length bytes == 0)
fails_to_write (Err e) bytes = true
