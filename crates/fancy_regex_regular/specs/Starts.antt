-- The starts of a search.
use Rattle.std.specs.Prelude.{ℕ, if◌then◌else◌}
use Rattle.fancy_regex_class.specs.declared.input.RunInput.{RunInput}

-- the last start of a search that begins within its range
abbrev pub last_start : RunInput → ℕ
last_start input = if input.anchored then input.first else input.range.end
