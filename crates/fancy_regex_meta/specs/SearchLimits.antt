-- Which errors a search may return, within which limits it answers, and how often the linear-time matcher looks at the haystack.
use Rattle.std.specs.Prelude.{◌≡◌, ℕ, ◌+◌, ◌-◌, ◌*◌, ◌<◌, ◌≤◌, Bool, false, not, ◌||◌, List, Some, None, string_bytes, if◌then◌else◌}
use Rattle.fancy_regex_tree.specs.Tree.{Tree}
use Rattle.fancy_regex_meaning.specs.Groups.{pattern_of}
use Rattle.fancy_regex_meaning.specs.Ways.{Setting}
use Rattle.fancy_regex_meaning.specs.Searches.{Search, match_at, starts}
use Rattle.fancy_regex_meaning.specs.Choices.{choices}
use Rattle.fancy_regex_meaning.specs.Sizes.{tree_weight}
use Rattle.fancy_regex_class.specs.RunInputs.{setting_for}
use Rattle.fancy_regex_linear.specs.Find.{attempted}
use Rattle.fancy_regex_class.specs.declared.input.RunInput.{RunInput}
use Rattle.fancy_regex_program.specs.Machine.{Ending}
use Rattle.fancy_regex_compiler.specs.Prog.{Prog}
use Rattle.fancy_regex_machine.specs.MachineLimits.{MachinePassesLimit}
use Rattle.fancy_regex_machine.specs.RunArguments.{machine_ending}
use Rattle.fancy_regex_machine.specs.RuntimeError.{RuntimeError}
use Rattle.fancy_regex_machine.specs.RuntimeError.TheVariants.{BacktrackLimitExceeded, StackOverflow, Memory}
use Rattle.fancy_regex_machine.specs.declared.search.RunOptions.{RunOptions}
use Rattle.fancy_regex_input.specs.SearchInputs.{run_input_of}
pub use Rattle.fancy_regex_input.specs.SearchInputs.{effective_start}
use Rattle.fancy_regex_input.specs.declared.config.SearchConfig.{SearchConfig}
use Rattle.fancy_regex_meta.specs.Patterns.{tree_in, options_in, setting_in}
use Rattle.fancy_regex_meta.specs.Strategies.{search_of, run_options_of}
use Rattle.fancy_regex_meta.specs.EasyPatterns.{pattern_uses_easy}
use Rattle.fancy_regex_meta.specs.LinearPatterns.{PatternIsLinear}
use Rattle.fancy_regex_meta.specs.declared.options.RegexOptions.{RegexOptions}
use Rattle.fancy_regex_meta.specs.declared.strategy.Strategy.{Strategy}
use Rattle.fancy_regex_meta.specs.declared.strategy.Strategy.TheVariants.{Easy, Linear, Program, Regular}
use Rattle.fancy_regex_meta.specs.declared.error.Error.{Error}
use Rattle.fancy_regex_meta.specs.declared.error.Error.TheVariants as told
use Rattle.fancy_regex_meta.specs.declared.meta_regex.MetaRegex.{MetaRegex}

-- the limit of open branches (saved backtrack points) of a program
abbrev pub max_open_branches : ℕ
max_open_branches = 1000000

-- An error that a search with this number of choices may return: a limit only where the choices exceed it and the pattern
-- runs a program; otherwise only `Memory`.
abbrev pub IsSearchError : Bool → ℕ → ℕ → Error → Type 0
IsSearchError served limit choices (told.RuntimeError BacktrackLimitExceeded) = (served ≡ false) × (limit < choices)
IsSearchError served limit choices (told.RuntimeError StackOverflow) = (served ≡ false) × (max_open_branches < choices)
IsSearchError served limit choices (told.RuntimeError Memory) = ⊥
IsSearchError served limit choices told.Memory = Unit {0}
IsSearchError served limit choices _ = ⊥

-- A limit is the first that the machine passes when it runs the kept program on this text and input with the options'
-- limit and the kept seek table. The linear-time matcher has no limit, and states with parts answer where the program meets one.
abbrev pub StrategyPassesLimit : Strategy → RegexOptions → List ℕ → RunInput → RuntimeError → Type 0
StrategyPassesLimit (Easy easy) o text input error = ⊥
StrategyPassesLimit (Linear linear prog) o text input error = ⊥
StrategyPassesLimit (Program prog run) o text input error = MachinePassesLimit prog text input (run_options_of o run.seek) error
StrategyPassesLimit (Regular regular prog run relaxed) o text input error = ⊥

-- an error of a search that reports a limit only where it is the first that the kept program passes
abbrev pub IsStrategyError : Strategy → RegexOptions → List ℕ → RunInput → Error → Type 0
IsStrategyError strategy o text input (told.RuntimeError error) = StrategyPassesLimit strategy o text input error
IsStrategyError strategy o text input _ = Unit {0}

-- The machine with complete copies of all slots stays within both limits: wherever its run of the program ends, it has
-- backtracked at most as often as the backtrack limit allows, and had at most 1,000,000 branches open at once.
abbrev pub MachineStaysInLimits : Prog → List ℕ → RunInput → RunOptions → Type 0
MachineStaysInLimits prog text input options = (n : ℕ) (e : Ending) → machine_ending prog text input options n ≡ Some e
    → (e.backtracks ≤ options.backtrack_limit) × (e.peak ≤ max_open_branches)

-- Where a strategy answers, no limit is passed: the machine stays within the limits when it runs the kept program on this text
-- and input with the options' limit. The linear-time matcher has no limit, nor have states with parts.
abbrev pub StrategyStaysInLimits : Strategy → RegexOptions → List ℕ → RunInput → Type 0
StrategyStaysInLimits (Easy easy) o text input = Unit {0}
StrategyStaysInLimits (Linear linear prog) o text input = Unit {0}
StrategyStaysInLimits (Program prog run) o text input = MachineStaysInLimits prog text input (run_options_of o run.seek)
StrategyStaysInLimits (Regular regular prog run relaxed) o text input = Unit {0}

-- the weight of a tree: the looks per position that the linear-time matcher needs at most
abbrev pub weight_of : Tree → ℕ
weight_of t = tree_weight (pattern_of t).groups t

-- the number of start offsets attempted, up to that of the match
abbrev pub starts_tried : Tree → Setting → Search → ℕ
starts_tried t s find = attempted (match_at s (pattern_of t) find) (starts s (pattern_of t) find)

-- the number of choices of a strategy's search
abbrev pub run_choices : RegexOptions → List ℕ → RunInput → Tree → ℕ
run_choices o text input t = choices (setting_for o.unicode_mode text input) (pattern_of t) (search_of o input)

-- the number of start offsets that a strategy's search tries
abbrev pub run_tried : RegexOptions → List ℕ → RunInput → Tree → ℕ
run_tried o text input t = starts_tried t (setting_for o.unicode_mode text input) (search_of o input)

-- the setting of a search from an offset, where `\G` may be disabled
abbrev pub setting_from : RegexOptions → List ℕ → SearchConfig → ℕ → Bool → Setting
setting_from o text config q continue_disabled = record (setting_in o text config) { continue_at = if continue_disabled || not config.continues then None else Some q }

-- the search of the definitions from an offset
abbrev pub search_at : RegexOptions → SearchConfig → ℕ → Search
search_at o config q = record { first = q; stop = config.range_end; anchored = config.anchored; options = options_in o }

-- the tree of a compiled pattern
abbrev pub meta_tree : MetaRegex → Tree
meta_tree s = tree_in s.options (string_bytes s.pattern)

-- a compiled pattern is plain
abbrev pub meta_uses_easy : MetaRegex → Bool
meta_uses_easy s = pattern_uses_easy s.options (string_bytes s.pattern)

-- a compiled pattern is linear
abbrev pub MetaIsLinear : MetaRegex → Type 0
MetaIsLinear s = PatternIsLinear s.options (string_bytes s.pattern)

-- the number of choices of a search, where `\G` may be disabled
abbrev pub meta_choices : MetaRegex → List ℕ → SearchConfig → Bool → ℕ
meta_choices s text config continue_disabled =
    choices (setting_from s.options text config (effective_start config) continue_disabled) (pattern_of (meta_tree s)) (search_at s.options config (effective_start config))

-- the number of start offsets that a search tries
abbrev pub meta_starts_tried : MetaRegex → List ℕ → SearchConfig → Bool → ℕ
meta_starts_tried s text config continue_disabled =
    starts_tried (meta_tree s) (setting_from s.options text config (effective_start config) continue_disabled) (search_at s.options config (effective_start config))

-- the most looks of the linear-time matcher: the weight of the tree for each position of the range
abbrev pub max_looks : MetaRegex → SearchConfig → ℕ
max_looks s config = weight_of (meta_tree s) * (config.range_end - effective_start config + 1)

-- the most looks of the linear-time matcher in a search with this input: the weight of the tree for each position that it may reach
abbrev pub run_looks : MetaRegex → RunInput → ℕ
run_looks s input = weight_of (meta_tree s) * (input.range.end - input.first + 1)

-- The error is one that a search with this input may return: a limit only where the choices exceed it, and only where it is
-- the first that the kept program passes on this input.
abbrev pub IsRunError : MetaRegex → List ℕ → RunInput → Error → Type 0
IsRunError s text input e =
    IsSearchError (meta_uses_easy s) s.options.backtrack_limit (run_choices s.options text input (meta_tree s)) e
    × IsStrategyError s.strategy s.options text input e

-- Where a search with this input answers, its run stays within the limits. A search whose first start is past the end of its range
-- runs nothing.
abbrev pub RunStaysInLimits : MetaRegex → List ℕ → RunInput → Type 0
RunStaysInLimits s text input = input.first ≤ input.range.end → StrategyStaysInLimits s.strategy s.options text input

-- The error is one that a search may return: a limit only where the choices exceed it, and only where the kept program passes
-- it on this input.
abbrev pub IsMetaSearchError : MetaRegex → List ℕ → SearchConfig → Bool → Error → Type 0
IsMetaSearchError s text config continue_disabled e =
    IsSearchError (meta_uses_easy s) s.options.backtrack_limit (meta_choices s text config continue_disabled) e
    × IsStrategyError s.strategy s.options text (run_input_of config (effective_start config) continue_disabled) e

-- Where a search answers, its run stays within the limits. A search whose effective start is past the end of its range runs
-- nothing.
abbrev pub MetaStaysInLimits : MetaRegex → List ℕ → SearchConfig → Bool → Type 0
MetaStaysInLimits s text config continue_disabled = effective_start config ≤ config.range_end
    → StrategyStaysInLimits s.strategy s.options text (run_input_of config (effective_start config) continue_disabled)

-- Want of memory is the only error that a search may return.
abbrev pub MeetsNoLimit : MetaRegex → Type 0
MeetsNoLimit s = (text : List ℕ) (config : SearchConfig) (continue_disabled : Bool) (e : Error)
    → IsMetaSearchError s text config continue_disabled e → e ≡ told.Memory
