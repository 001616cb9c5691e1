-- The search for a match that starts at one offset.
use Rattle.std.specs.Prelude.{ℕ, false, Option}
use Rattle.fancy_regex_input.specs.SearchInputs.{effective_start, run_input_of}
use Rattle.fancy_regex_input.specs.declared.config.SearchConfig.{SearchConfig}

-- where `\G` matches, whatever offset is tried: at the effective start of the configuration; `None` if it matches nowhere
abbrev pub continues_at : SearchConfig → Option ℕ
continues_at config = (run_input_of config (effective_start config) false).continue_at
