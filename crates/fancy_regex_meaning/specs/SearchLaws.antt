-- Laws of matches and of sets.
use Rattle.std.specs.Prelude.{◌≡◌, ℕ, ◌≤◌, true, List, [], ◌∷◌, length, Some, None, option_map, slice_index_or, slice_get, ◌+◌, ⊤}
use Rattle.std.specs.List.{filter}
use Rattle.std.specs.Str.{IsUtf8, IsCharBoundary}
use Rattle.fancy_regex_meaning.specs.Groups.{Pattern}
use Rattle.fancy_regex_meaning.specs.Ways.{MatchState, Setting}
use Rattle.fancy_regex_meaning.specs.Searches.{Search, Match, Input, Options, Member, match_of, is_admitted, ways_at, match_at, find_input, all_items, SetAnswer, member_match, set_answer}
use Rattle.fancy_regex_meaning.specs.WayLaws.{Each}

-- the admitted ways of a place
abbrev pub admitted_at : Setting → Pattern → Search → ℕ → List MatchState
admitted_at s pattern find p = filter (is_admitted find) (ways_at s pattern find p)

-- the match of a place is one of its admitted ways, so it ends inside the range
abbrev pub MatchesAreAdmitted : Type 0
MatchesAreAdmitted = (s : Setting) (pattern : Pattern) (find : Search) (p : ℕ) (m : Match) → match_at s pattern find p ≡ Some m →
    (w : MatchState) × (m ≡ match_of w) × (is_admitted find w ≡ true) × (m.end ≤ find.stop)

-- where there is none, no way is admitted, whether the longest is wanted or not
abbrev pub NoneIsNone : Type 0
NoneIsNone = (s : Setting) (pattern : Pattern) (find : Search) (p : ℕ) → match_at s pattern find p ≡ None → admitted_at s pattern find p ≡ []

-- where the longest is wanted, no admitted way ends past the match
abbrev pub LongestEndsLast : Type 0
LongestEndsLast = (s : Setting) (pattern : Pattern) (find : Search) (p : ℕ) (m : Match) → match_at s pattern find p ≡ Some m →
    find.options.longest ≡ true → Each (λ w. w.position ≤ m.end) (admitted_at s pattern find p)

-- a match and its groups cut the text between characters
abbrev pub MatchHasCharBoundaries : List ℕ → Match → Type 0
MatchHasCharBoundaries text m =
    IsCharBoundary text m.start × IsCharBoundary text m.end
    × ((k a b : ℕ) → slice_index_or m.pairs k None ≡ Some (a, b) → IsCharBoundary text a × IsCharBoundary text b × (a ≤ b))

abbrev pub MatchesHaveCharBoundaries : Type 0
MatchesHaveCharBoundaries = (s : Setting) (pattern : Pattern) (find : Search) (p : ℕ) (m : Match) → IsUtf8 s.text → IsCharBoundary s.text p →
    match_at s pattern find p ≡ Some m → MatchHasCharBoundaries s.text m

-- an input whose places are character boundaries of the text
abbrev pub FitsText : List ℕ → Input → Type 0
FitsText text input = IsCharBoundary text input.start × IsCharBoundary text input.range_start × (input.range_end ≤ length text)

-- what a search of such an input finds, and each item of an iteration, cuts the text between characters and ends inside the range
abbrev pub FoundHasCharBoundaries : Type 0
FoundHasCharBoundaries = (s : Setting) (pattern : Pattern) (options : Options) (input : Input) → IsUtf8 s.text → FitsText s.text input →
    (m : Match) → find_input s pattern options input ≡ Some m → MatchHasCharBoundaries s.text m × (m.end ≤ input.range_end)

abbrev pub ItemsHaveCharBoundaries : Type 0
ItemsHaveCharBoundaries = (s : Setting) (pattern : Pattern) (options : Options) (input : Input) → IsUtf8 s.text → FitsText s.text input →
    Each (λ m. MatchHasCharBoundaries s.text m × (m.end ≤ input.range_end)) (all_items s pattern options input)

-- a set of one member finds what its member finds
abbrev pub OneMemberFinds : Type 0
OneMemberFinds = (m : Member) (input : Input) →
    option_map (λ answer. answer.found) (set_answer (m ∷ []) input (m.setting.text))
    ≡ option_map (λ found. (0, found) ∷ []) (find_input m.setting m.pattern m.options input)

-- the numbers rise, from the first one on
abbrev pub Rises : ℕ → List (ℕ × Match) → Type 0
Rises i [] = ⊤
Rises i (x ∷ xs) = (i ≤ x.0) × Rises (x.0 + 1) xs

-- this is the member with the number, and its own match at the place
abbrev pub IsFoundAt : List Member → Input → ℕ → ℕ × Match → Type 0
IsFoundAt members input p x = (m : Member) × (slice_get members x.0 ≡ Some m) × (member_match members input p m ≡ Some x.1)

-- What a set finds are its members that match at its place, each with its own match, in the order of their numbers; and there is one.
abbrev pub SetsFindMembers : Type 0
SetsFindMembers = (members : List Member) (input : Input) (text : List ℕ) (answer : SetAnswer) →
    set_answer members input text ≡ Some answer →
    Each (IsFoundAt members input answer.position) answer.found
    × ((k : ℕ) (found : Match) → IsFoundAt members input answer.position (k, found) →
    (i : ℕ) × (slice_get answer.found i ≡ Some (k, found)))
    × Rises 0 answer.found
    × (1 ≤ length answer.found)
