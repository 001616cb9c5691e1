-- What the characters before and after an offset show of the text.
use Rattle.std.specs.Prelude.{◌≡◌, ℕ, ◌+◌, Bool, ◌&&◌, List, Option, Some, None, ◌-◌, option_map, unwrap_or, nat_le, if◌then◌else◌}
use Rattle.std.specs.Char.{len_utf8}
use Rattle.std.specs.Prelude.{IsCharBoundary}
use Rattle.regex_hir.specs.Text.{is_some_and, char_at, char_before}
use Rattle.fancy_regex_states.specs.Attempts.{View}
use Rattle.fancy_regex_states.specs.CharTests.{leaf_matches_char, passes}
use Rattle.fancy_regex_states.specs.declared.atom.Leaf.{Leaf}
use Rattle.fancy_regex_states.specs.declared.atom.Test.{Test}
use Rattle.fancy_regex_class.specs.declared.class.CharClassMatcher.{CharClassMatcher}
use Rattle.fancy_regex_states.specs.declared.rules.Rules.{Rules}
use Rattle.fancy_regex_linear.specs.declared.frame.SearchStep.{SearchStep}
use Rattle.fancy_regex_linear.specs.declared.frame.SearchStep.TheVariants.{Pair, Backtrack}

-- continues after the character, if the leaf matches it and it ends by `stop`
abbrev pub read_next : Bool → List CharClassMatcher → ℕ → Leaf → ℕ → ℕ → Option ℕ → SearchStep
read_next unicode matchers stop leaf next at None = Backtrack
read_next unicode matchers stop leaf next at (Some c) =
    if leaf_matches_char unicode matchers leaf c && nat_le (len_utf8 c) (stop - at) then Pair next (at + len_utf8 c) else Backtrack
