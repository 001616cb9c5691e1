-- Which patterns are linear: no search of them meets a limit.
use Rattle.std.specs.Prelude.{◌≡◌, ◌⊎◌, ℕ, Bool, true, false, List}
use Rattle.fancy_regex_tree.specs.Tree.{Tree}
use Rattle.fancy_regex_meaning.specs.Groups.{pattern_of}
use Rattle.fancy_regex_regular.specs.Supported.{IsSupported}
use Rattle.fancy_regex_meta.specs.Patterns.{tree_in}
use Rattle.fancy_regex_meta.specs.EasyPatterns.{is_easy_tree}
use Rattle.fancy_regex_meta.specs.declared.options.RegexOptions.{RegexOptions}
use Rattle.fancy_regex_meta.specs.declared.strategy.Strategy.{Strategy}
use Rattle.fancy_regex_meta.specs.declared.strategy.Strategy.TheVariants.{Easy, Linear, Program, Regular}

-- the tree, with groups numbered from 1, is searched by states with parts where empty matches are allowed
abbrev pub HasStates : RegexOptions → Tree → Type 0
HasStates o t = (o.find_not_empty ≡ false) × IsSupported (pattern_of t)

-- The tree is linear: empty matches are allowed, and it is easy, or states with parts search for it.
abbrev pub IsLinear : RegexOptions → Tree → Type 0
IsLinear o t = (o.find_not_empty ≡ false) × ((is_easy_tree t ≡ true) ⊎ IsSupported (pattern_of t))

-- the pattern of the text is linear
abbrev pub PatternIsLinear : RegexOptions → List ℕ → Type 0
PatternIsLinear o text = IsLinear o (tree_in o text)

-- the strategy is no program alone
abbrev pub is_linear_strategy : Strategy → Bool
is_linear_strategy (Easy easy) = true
is_linear_strategy (Linear linear prog) = true
is_linear_strategy (Program prog run) = false
is_linear_strategy (Regular regular prog run relaxed) = true
