-- The groups of matches, as C sees them.
use Rattle.std.specs.Prelude.{◌≡◌, ⊤, ℕ, ◌+◌, ◌/◌, List, [], ◌∷◌, ◌++◌, length, Option, Some, slice_get}
use Rattle.fancy_regex.specs.CaptureSpans.{IsSpanAt}
use Rattle.fancy_regex.specs.MetaMatches.{meta_pattern}
use Rattle.fancy_regex.specs.RunInputs.{match_slots}
use Rattle.fancy_regex.specs.SearchConfig.{SearchConfig}
use Rattle.fancy_regex.specs.Searches.{Match}
use Rattle.fancy_regex.specs.SetAnswers.{answer_of_set}
use Rattle.fancy_regex.specs.Regex.{Regex}
use Rattle.fancy_regex_ffi_lists.specs.Lists.{members_found}
use Rattle.fancy_regex_ffi_lists.specs.Spans.{span_of}
use Rattle.fancy_regex_ffi_lists.specs.declared.member.Member.{Member}
use Rattle.fancy_regex_ffi_lists.specs.declared.spans.Span.{Span}

-- the span of a group: that of the part of the text that it matched, and the largest number twice where it took no part
abbrev pub IsGroupSpan : List ℕ → List ℕ → ℕ → Span → Type 0
IsGroupSpan text slots k span = (found : Option (ℕ × ℕ)) × IsSpanAt text slots k found × (span ≡ span_of found)

-- a group of a member that matches, with the number of the member
abbrev pub IsGroupOf : List ℕ → List ℕ → ℕ → ℕ → Member → Type 0
IsGroupOf text slots number k group =
    (span : Span) × IsGroupSpan text slots k span × (group ≡ record { pattern = number; start = span.start; end = span.end })

-- groups of a member that matches, one after another, from the group with this number on
abbrev pub AreGroupsFrom : List ℕ → List ℕ → ℕ → ℕ → List Member → Type 0
AreGroupsFrom text slots number k [] = ⊤
AreGroupsFrom text slots number k (group ∷ groups) = IsGroupOf text slots number k group × AreGroupsFrom text slots number (k + 1) groups

-- all groups of a match are added after what is listed, given their offsets
abbrev pub AreGroupsAdded : List ℕ → List ℕ → ℕ → List Member → List Member → Type 0
AreGroupsAdded text slots number old new =
    (added : List Member) × (new ≡ old ++ added) × (length added ≡ length slots / 2) × AreGroupsFrom text slots number 0 added

-- All groups of a member that matches, from group 0, the whole match, on.
pub record AreGroupsOfMember (regexes : List Regex) (text : List ℕ) (found : ℕ × Match) (groups : List Member) : Type 0 where
  pub regex : Regex
  pub member : slice_get regexes found.0 ≡ Some regex
  pub many : length groups ≡ length found.1.pairs
  pub are : AreGroupsFrom text (match_slots (meta_pattern regex.meta) found.1) found.0 0 groups

-- the groups of members that match, those of one after those of another
abbrev pub AreGroupsOfEach : List Regex → List ℕ → List (ℕ × Match) → List Member → Type 0
AreGroupsOfEach regexes text [] groups = groups ≡ []
AreGroupsOfEach regexes text (found ∷ others) groups =
    (first : List Member) × (rest : List Member) × (groups ≡ first ++ rest) × AreGroupsOfMember regexes text found first × AreGroupsOfEach regexes text others rest

-- the groups of the members of a set that match at the earliest position at which one of them does, as the definitions give them
abbrev pub AreMatchingGroups : List Regex → List ℕ → SearchConfig → List Member → Type 0
AreMatchingGroups regexes text config groups = AreGroupsOfEach regexes text (members_found (answer_of_set regexes text config)) groups
