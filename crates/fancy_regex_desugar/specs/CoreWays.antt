-- The ordered matches of a core pattern, and the number of choices that a search of it makes.
use Rattle.std.specs.Prelude.{ℕ, ◌+◌, Bool, Option, Some, None, [], ◌∷◌, ◌++◌, is_some, ◌==◌}
use Rattle.std.specs.List.{flat_map}
use Rattle.regex_hir.specs.Text.{is_some_and}
use Rattle.fancy_regex_meaning.specs.Positions.{position_before}
use Rattle.fancy_regex_meaning.specs.Ways as row
use Rattle.fancy_regex_meaning.specs.Ways.{MatchState, Moves, Setting, with_position, pair_of, for_some, match_empty_if, never_match, reset_match_start, is_none_of, keep_only_pairs, first_only, character, is_any, is_literal, general_newline_ways, holds}
use Rattle.fancy_regex_meaning.specs.Choices.{and_then, repeat_choices, branch_choices, absent_choices}
use Rattle.fancy_regex_desugar.specs.CorePatterns.{CharacterTest, any, literal, class, CorePattern, nothing, read, general_newline, check, continue, keep_out, fail, cat, alt, group, ahead, never, back, atomic, delegate, tail, repeat, backref, exists, conditional, absent, called}
use Rattle.fancy_regex_desugar.specs.Delegates.{first_end, first_end_until}

-- to that position, where there is one
abbrev pub end_ways : Option ℕ → Moves
end_ways o w = for_some (λ p. with_position w p ∷ []) o

module _ (s : Setting) where
  -- whether the character passes the test
  abbrev pub passes : CharacterTest → ℕ → Bool
  passes (any newline crlf) = is_any s newline crlf
  passes (literal c casei) = is_literal s c casei
  passes (class text casei) = s.has_member text casei

  -- the position n characters back; none where fewer precede it
  abbrev pub back_ways : ℕ → Moves
  back_ways n w = end_ways (position_before s.text n w.position) w

  -- Where only the first match counts, the bound is the greatest position at which it may end.
  module _ (bound : Option ℕ) where
    -- the ordered matches, the preferred first
    unfoldable pub core_ways : CorePattern → Moves
    core_ways nothing w = w ∷ []
    core_ways (read leaf) w = character s (passes leaf) w
    core_ways (general_newline unicode) w = general_newline_ways s unicode w
    core_ways (check a) w = match_empty_if (holds s a w.position) w
    core_ways continue w = match_empty_if (is_some_and s.continue_at (λ g. g == w.position)) w
    core_ways keep_out w = reset_match_start w
    core_ways fail w = never_match w
    core_ways (cat a b) w = flat_map (core_ways b) (core_ways a w)
    core_ways (alt a b) w = core_ways a w ++ core_ways b w
    core_ways (group k a) w = row.group k (core_ways a) w
    core_ways (ahead a) w = keep_only_pairs w (core_ways a w)
    core_ways (never a) w = match_empty_if (is_none_of (core_ways a w)) w
    core_ways (back n) w = back_ways n w
    core_ways (atomic a) w = first_only (core_ways a w)
    core_ways (delegate t a) w = end_ways (first_end s t w.position) w
    core_ways (tail t a) w = elim bound [ None ↦ core_ways a w | Some stop ↦ end_ways (first_end_until s t stop w.position) w ]
    core_ways (repeat a lo hi greedy) w = row.repeat s lo hi greedy (core_ways a) w
    core_ways (backref k casei) w = row.backref s casei (pair_of w k) w
    core_ways (exists k) w = match_empty_if (is_some (pair_of w k)) w
    core_ways (conditional c a b) w = row.conditional (core_ways c w) (core_ways a) (core_ways b) w
    core_ways (absent a) w = row.absent s (core_ways a) w
    core_ways (called k a) w = core_ways a w

    -- the number of choices made while all matches are listed
    unfoldable pub core_choices : CorePattern → MatchState → ℕ
    core_choices (general_newline unicode) w = 1
    core_choices (cat a b) w = and_then (core_ways a) (core_choices a) (core_choices b) w
    core_choices (alt a b) w = 1 + (core_choices a w + core_choices b w)
    core_choices (group k a) w = core_choices a w
    core_choices (ahead a) w = core_choices a w
    core_choices (never a) w = 1 + core_choices a w
    core_choices (atomic a) w = core_choices a w
    core_choices (delegate t a) w = core_choices a w
    core_choices (tail t a) w = core_choices a w
    core_choices (repeat a lo hi greedy) w = repeat_choices s lo hi (core_ways a) (core_choices a) w
    core_choices (conditional c a b) w = 1 + core_choices c w + branch_choices (core_ways c w) (core_choices a) (core_choices b) w
    core_choices (absent a) w = absent_choices s (core_choices a) w
    core_choices (called k a) w = core_choices a w
    core_choices _ w = 0
