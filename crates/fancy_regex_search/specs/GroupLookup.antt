-- The groups of a regex by their names.
use Rattle.std.specs.Prelude.{◌≡◌, ℕ, ◌+◌, ◌*◌, List, Option, Some, None, chars, string_bytes, slice_index, slice_range}
use Rattle.fancy_regex_tree.specs.Numbering.{Names, last_named}
use Rattle.fancy_regex_meta.specs.PatternMatches.{names_in}
use Rattle.fancy_regex_meta.specs.declared.meta_regex.MetaRegex.{MetaRegex}
use Rattle.fancy_regex_search.specs.CaptureSpans.{IsSpanAt, Participated}

-- the names of the groups of a compiled pattern, from group 1
abbrev pub meta_group_names : MetaRegex → Names
meta_group_names s = names_in s.options (string_bytes s.pattern)

-- the number of the last group with this name, which is given in bytes
abbrev pub meta_last_group : MetaRegex → List ℕ → Option ℕ
meta_last_group s name = last_named (meta_group_names s) (chars name)

-- This is the span of the group, from the start and end offsets of each group; `None` if there is no such group.
abbrev pub IsSpanOf : List ℕ → List ℕ → Option ℕ → Option (ℕ × ℕ) → Type 0
IsSpanOf text slots None span = span ≡ None
IsSpanOf text slots (Some k) span = IsSpanAt text slots k span

-- there is such a group, and it participated in the match
abbrev pub NamedGroupParticipated : List ℕ → List ℕ → Option ℕ → Type 0
NamedGroupParticipated text slots None = ⊥
NamedGroupParticipated text slots (Some k) = Participated text slots k

-- this is the text that the group matched
abbrev pub IsTextOf : List ℕ → List ℕ → Option ℕ → List ℕ → Type 0
IsTextOf text slots None shown = ⊥
IsTextOf text slots (Some k) shown = shown ≡ slice_range text (slice_index slots (2 * k)) (slice_index slots (2 * k + 1))
