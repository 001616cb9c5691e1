-- Spans, as C sees them.
use Rattle.std.specs.Prelude.{ℕ, ◌-◌, ◌^◌, Option, Some, None}
use Rattle.fancy_regex_ffi_lists.specs.declared.spans.Span.{Span}

-- the offsets of a match, and the largest number twice where nothing matched
abbrev pub span_of : Option (ℕ × ℕ) → Span
span_of (Some span) = record { start = span.0; end = span.1 }
span_of None = record { start = 2 ^ 64 - 1; end = 2 ^ 64 - 1 }
