-- Which patterns are plain: the linear-time matcher executes them, and they have no program.
use Rattle.std.specs.Prelude.{ℕ, Bool, true, false, not, ◌&&◌, List, length}
use Rattle.fancy_regex_tree.specs.Tree.{Tree}
use Rattle.fancy_regex_meaning.specs.Groups.{pattern_of}
use Rattle.fancy_regex_info.specs.Easy.{is_easy}
use Rattle.fancy_regex_info.specs.References.{is_read}
use Rattle.fancy_regex_meta.specs.Patterns.{tree_in}
use Rattle.fancy_regex_meta.specs.declared.options.RegexOptions.{RegexOptions}
use Rattle.fancy_regex_meta.specs.declared.strategy.Strategy.{Strategy}
use Rattle.fancy_regex_meta.specs.declared.strategy.Strategy.TheVariants.{Easy, Linear, Program, Regular}

-- the tree, with groups numbered from 1, is easy
abbrev pub is_easy_tree : Tree → Bool
is_easy_tree t = is_easy (is_read (length (pattern_of t).groups) t) (pattern_of t).first_group t

-- the tree is plain: it is easy, and empty matches are allowed
abbrev pub uses_easy : RegexOptions → Tree → Bool
uses_easy o t = not o.find_not_empty && is_easy_tree t

-- the pattern of the text is plain
abbrev pub pattern_uses_easy : RegexOptions → List ℕ → Bool
pattern_uses_easy o text = uses_easy o (tree_in o text)

-- the strategy is the linear-time matcher of an easy pattern
abbrev pub is_easy_strategy : Strategy → Bool
is_easy_strategy (Easy easy) = true
is_easy_strategy (Linear linear prog) = false
is_easy_strategy (Program prog run) = false
is_easy_strategy (Regular regular prog run relaxed) = false
