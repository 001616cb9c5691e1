-- A desugared pattern has the same matches as its tree, and no more choices.
use Rattle.std.specs.Prelude.{◌≡◌, ◌≤◌, ◌+◌, ◌*◌, ℕ, true, false, List, length, Option}
use Rattle.std.specs.List.{filter}
use Rattle.fancy_regex_tree.specs.Tree.{Tree}
use Rattle.fancy_regex_meaning.specs.Groups.{Pattern, pattern_of, explicit_pattern_of}
use Rattle.fancy_regex_meaning.specs.Ways.{MatchState, Setting, meaning, call_ways, ways}
use Rattle.fancy_regex_meaning.specs.Choices.{count, call_choices, choices_at, nodes_with, nodes_of_call, program_nodes}
use Rattle.fancy_regex_meaning.specs.Searches.{Search, chosen, is_admitted, start_way}
use Rattle.fancy_regex_desugar.specs.CoreWays.{core_ways, core_choices}
use Rattle.fancy_regex_desugar.specs.Delegates.{tail_bound}
use Rattle.fancy_regex_desugar.specs.ProgramSizes.{room}
use Rattle.fancy_regex_desugar.specs.Shapes.{StepsBackOnlyFirst, HasGroups}
use Rattle.fancy_regex_desugar.specs.Thinned.{Thinned}
use Rattle.fancy_regex_desugar.specs.Unfolded.{unfolded, unfolded_behind, core_pattern_of}

-- A desugared part has a sub-list, in order, of the ordered matches of its tree, both forwards from a position and, for look-behind,
-- ending at it. Only matches that repeat an earlier one are left out, as a look-ahead may leave them. It has no tail, so this holds for
-- every bound.
abbrev pub UnfoldedKeepsWays : Type 0
UnfoldedKeepsWays = (s : Setting) (bound : Option ℕ) (groups : List Tree) (m : ℕ) (opened : List ℕ) (n : ℕ) (t : Tree) (w : MatchState) →
    Thinned ((meaning s groups (call_ways s groups m opened) n t).from w) (core_ways s bound (unfolded groups m opened n t) w)
    × Thinned ((meaning s groups (call_ways s groups m opened) n t).behind w) (core_ways s bound (unfolded_behind groups m opened n t) w)

-- It has at most as many choices as its tree, in both directions.
abbrev pub UnfoldedKeepsChoices : Type 0
UnfoldedKeepsChoices = (s : Setting) (bound : Option ℕ) (groups : List Tree) (m : ℕ) (opened : List ℕ) (n : ℕ) (t : Tree) (w : MatchState) →
    (core_choices s bound (unfolded groups m opened n t) w
    ≤ (count s groups (call_ways s groups m opened) (call_choices s groups m opened) n t).from w)
    × (core_choices s bound (unfolded_behind groups m opened n t) w
    ≤ (count s groups (call_ways s groups m opened) (call_choices s groups m opened) n t).behind w)

-- Each search reports the same match of the whole pattern as of its tree.
abbrev pub PatternKeepsMatches : Type 0
PatternKeepsMatches = (s : Setting) (pattern : Pattern) (find : Search) (w : MatchState) →
    chosen find.options.longest (filter (is_admitted find) (ways s pattern.groups pattern.first_group pattern.tree w))
    ≡ chosen find.options.longest (filter (is_admitted find) (core_ways s (tail_bound find) (core_pattern_of pattern) w))

-- The whole pattern has at most as many choices as its tree from each position.
abbrev pub PatternKeepsChoices : Type 0
PatternKeepsChoices = (s : Setting) (bound : Option ℕ) (pattern : Pattern) (p : ℕ) →
    core_choices s bound (core_pattern_of pattern) (start_way pattern p) ≤ choices_at s pattern p

-- A program has at most 16 instructions for each node of the tree; a call counts the nodes of its target's body.
abbrev pub UnfoldedSizeIsBounded : Type 0
UnfoldedSizeIsBounded = (groups : List Tree) (m : ℕ) (opened : List ℕ) (n : ℕ) (t : Tree) →
    (room (unfolded groups m opened n t) + 3 ≤ 16 * nodes_with (nodes_of_call groups m opened) t)
    × (room (unfolded_behind groups m opened n t) + 2 ≤ 16 * nodes_with (nodes_of_call groups m opened) t)

-- The same for a whole pattern.
abbrev pub PatternSizeIsBounded : Type 0
PatternSizeIsBounded = (pattern : Pattern) → room (core_pattern_of pattern) + 3 ≤ 16 * program_nodes pattern

-- It steps back only at the beginning of a look-around; the form for look-behind also at its own beginning.
abbrev pub UnfoldedStepsBackOnlyFirst : Type 0
UnfoldedStepsBackOnlyFirst = (groups : List Tree) (m : ℕ) (opened : List ℕ) (n : ℕ) (t : Tree) →
    StepsBackOnlyFirst false (unfolded groups m opened n t) × StepsBackOnlyFirst true (unfolded_behind groups m opened n t)

-- The same for a whole pattern.
abbrev pub PatternStepsBackOnlyFirst : Type 0
PatternStepsBackOnlyFirst = (pattern : Pattern) → StepsBackOnlyFirst false (core_pattern_of pattern)

-- Each of its group numbers is one of the pattern's, for patterns whose groups count from 1 and for those whose groups count from 0.
abbrev pub PatternGroupsAreInRange : Type 0
PatternGroupsAreInRange = (t : Tree) →
    HasGroups 1 (length ((pattern_of t).groups)) (core_pattern_of (pattern_of t))
    × HasGroups 0 (length ((explicit_pattern_of t).groups)) (core_pattern_of (explicit_pattern_of t))
