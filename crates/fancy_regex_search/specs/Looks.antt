-- How often a search of a pattern without counted repeats looks at its haystack.
use Rattle.std.specs.Prelude.{ℕ, ◌+◌, ◌-◌, ◌*◌, length, string_bytes}
use Rattle.fancy_regex_meaning.specs.Groups.{pattern_of}
use Rattle.fancy_regex_tree_laws.specs.UncountedRepeats.{HasNoCountedRepeats}
use Rattle.fancy_regex_input.specs.declared.config.SearchConfig.{SearchConfig}
use Rattle.fancy_regex_meta.specs.SearchLimits.{meta_tree, effective_start}
use Rattle.fancy_regex_meta.specs.declared.meta_regex.MetaRegex.{MetaRegex}

-- No repeat of the pattern has a bound above one, and no unbounded repeat has a body that can match the empty string.
abbrev pub MetaHasNoCountedRepeats : MetaRegex → Type 0
MetaHasNoCountedRepeats s = HasNoCountedRepeats (pattern_of (meta_tree s)).groups (meta_tree s)

-- four for each byte of the pattern and four more, for each position of the range
abbrev pub plain_looks : MetaRegex → SearchConfig → ℕ
plain_looks s config = 4 * (length (string_bytes s.pattern) + 1) * (config.range_end - effective_start config + 1)
