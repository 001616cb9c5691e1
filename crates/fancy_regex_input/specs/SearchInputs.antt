-- The configuration of a search, and the inputs that it stands for: that of the definitions and that of the engines.
use Rattle.std.specs.Prelude.{◌≤◌, ℕ, Bool, not, true, false, ◌&&◌, max, List, length, Some, None, if◌then◌else◌, IsCharBoundary}
use Rattle.fancy_regex_meaning.specs.Searches.{Input}
use Rattle.fancy_regex_class.specs.declared.input.RunInput.{RunInput}
use Rattle.fancy_regex_input.specs.declared.config.SearchConfig.{SearchConfig}

-- a whole text of so many bytes, searched from its start, unanchored, where `^`, `$` and `\G` match as usual
abbrev pub whole_up_to : ℕ → SearchConfig
whole_up_to end = record { start = 0; range_start = 0; range_end = end; anchored = false; start_text = true; end_text = true; continues = true }

-- this whole text, searched so
abbrev pub whole : List ℕ → SearchConfig
whole text = whole_up_to (length text)

-- the input of the definitions for a configuration
abbrev pub input_of : SearchConfig → Input
input_of config =
    record { start = config.start; range_start = config.range_start; range_end = config.range_end; anchored = config.anchored; no_continue = not (config.continues) }

-- the offset at which a search starts
abbrev pub effective_start : SearchConfig → ℕ
effective_start config = max config.start config.range_start

-- the input of the engines for a search from an offset, where `\G` may be disabled
abbrev pub run_input_of : SearchConfig → ℕ → Bool → RunInput
run_input_of config first continue_disabled = record {
  first = first;
  continue_at = if config.continues && not continue_disabled then Some first else None;
  range = record { start = config.range_start; end = config.range_end };
  anchored = config.anchored;
  no_start_text = not config.start_text;
  no_end_text = not config.end_text;
}

-- The offsets are character boundaries of the text, and the range is in order; the start may also lie past the end of the text.
pub record FitsText (text : List ℕ) (config : SearchConfig) : Type 0 where
  pub ordered : config.range_start ≤ config.range_end
  pub range_start : IsCharBoundary text config.range_start
  pub range_end : IsCharBoundary text config.range_end
  pub start : config.start ≤ length text → IsCharBoundary text config.start
