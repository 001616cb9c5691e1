-- Starts that a search may skip.
use Rattle.std.specs.Prelude.{◌≡◌, ◌≤◌, ℕ, Bool, false, List, Option, Some, None}
use Rattle.std.specs.Str.{IsCharBoundary}
use Rattle.fancy_regex_tree.specs.Tree.{Tree}
use Rattle.fancy_regex_meaning.specs.Groups.{pattern_of}
use Rattle.fancy_regex_meaning.specs.Searches.{Match, first_match}
use Rattle.fancy_regex_class.specs.RunInputs.{setting_for, search_for}
use Rattle.fancy_regex_class.specs.declared.input.RunInput.{RunInput}
use Rattle.fancy_regex_linear.specs.EasyPatterns.{IsEasyOf}
use Rattle.fancy_regex_relaxed.specs.Relaxed.{IsRelaxable, extended}
use Rattle.fancy_regex_relaxed.specs.declared.relaxed.Relaxed.{Relaxed}

-- The plain pattern is that of the tree, whose characters are those of this mode.
pub record IsRelaxedOf (relaxed : Relaxed) (unicode : Bool) (t : Tree) : Type 0 where
  pub relaxable : IsRelaxable t
  pub easy : IsEasyOf relaxed.easy (pattern_of (extended t))
  pub mode : relaxed.easy.unicode ≡ unicode
  pub first : relaxed.easy.longest ≡ false

-- the same search from another start
abbrev pub input_from : RunInput → ℕ → RunInput
input_from input start = record input { first = start }

-- the match of the tree in a search with this input
abbrev pub match_in : Bool → Bool → List ℕ → RunInput → Tree → Option Match
match_in unicode longest text input t = first_match (setting_for unicode text input) (pattern_of t) (search_for longest input)

-- There is no match; or the match is that of the search from this start, which is no earlier one.
abbrev pub IsSkip : Bool → Bool → List ℕ → RunInput → Tree → Option ℕ → Type 0
IsSkip unicode longest text input t None = match_in unicode longest text input t ≡ None
IsSkip unicode longest text input t (Some start) =
    (input.first ≤ start) × (start ≤ input.range.end) × IsCharBoundary text start
    × (match_in unicode longest text input t ≡ match_in unicode longest text (input_from input start) t)
