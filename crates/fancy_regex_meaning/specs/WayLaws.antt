-- Laws of the ways.
use Rattle.std.specs.Prelude.{◌⊎◌, Option, ◌≡◌, ℕ, suc, ◌≤◌, ◌+◌, ⊤, Bool, List, [], ◌∷◌, ◌++◌, length, Some, None, if◌then◌else◌, ◌==◌}
use Rattle.std.specs.List.{flat_map}
use Rattle.std.specs.Str.{IsUtf8, IsCharBoundary}
use Rattle.fancy_regex_tree.specs.declared.expr.LookAround.TheVariants.{LookAhead, LookAheadNeg, LookBehind, LookBehindNeg}
use Rattle.fancy_regex_tree.specs.Tree.{Tree, look_around, atomic_group}
use Rattle.fancy_regex_meaning.specs.Groups.{Pattern}
use Rattle.fancy_regex_meaning.specs.Choices.{count, call_choices}
use Rattle.fancy_regex_meaning.specs.Searches.{first_some, Search, Match, match_at}
use Rattle.fancy_regex_meaning.specs.Ways.{pair_of, MatchState, Moves, Meaning, Setting, all_of, meaning, call_ways, ways, max_open_calls, keep_only_pairs, match_empty_if, is_none_of, repeat, prefer}

-- of each element of a list
abbrev pub Each : {A : Type 0} → (A → Type 0) → List A → Type 0
Each P [] = ⊤
Each P (x ∷ xs) = P x × Each P xs

-- not before where it began, and inside the text
abbrev pub IsForward : List ℕ → MatchState → MatchState → Type 0
IsForward text w v = (w.position ≤ v.position) × (v.position ≤ length text)

abbrev pub MovesForward : List ℕ → Moves → Type 0
MovesForward text moves = (w : MatchState) → w.position ≤ length text → Each (IsForward text w) (moves w)

-- A fact that holds of a way holds of each way from it, and those lead onward.
abbrev pub IsForwardTo : (MatchState → Type 0) → MatchState → MatchState → Type 0
IsForwardTo Good w v = (w.position ≤ v.position) × Good v

abbrev pub PreservesForward : (MatchState → Type 0) → Moves → Type 0
PreservesForward Good moves = (w : MatchState) → Good w → Each (IsForwardTo Good w) (moves w)

-- a fact that holds of a state holds of each state that the moves lead to
abbrev pub Preserves : (MatchState → Type 0) → Moves → Type 0
Preserves Good moves = (w : MatchState) → Good w → Each Good (moves w)

-- the match start of a way, against that of one from which it comes
abbrev pub HasStartBetween : MatchState → MatchState → Type 0
HasStartBetween w v = (w.position ≤ v.position) × ((v.match_start ≡ w.match_start) ⊎ ((w.position ≤ v.match_start) × (v.match_start ≤ v.position)))

-- the start and end of each set group are character boundaries
abbrev pub HasGoodPairs : List ℕ → MatchState → Type 0
HasGoodPairs text w = (k a b : ℕ) → pair_of w k ≡ Some (a, b) → IsCharBoundary text a × IsCharBoundary text b × (a ≤ b)

-- and so are its position and its match start
abbrev pub HasCharBoundaries : List ℕ → MatchState → Type 0
HasCharBoundaries text w = IsCharBoundary text w.position × HasGoodPairs text w × IsCharBoundary text w.match_start

module _ (s : Setting) (groups : List Tree) where
  -- in UTF-8, from a state on character boundaries, each way leads forward to such a state
  abbrev pub WaysHaveCharBoundaries : Type 0
  WaysHaveCharBoundaries = IsUtf8 s.text → (n : ℕ) (t : Tree) → PreservesForward (HasCharBoundaries s.text) (ways s groups n t)

  -- a pattern leaves the match start as it was, or moves it to a position between its own start and end
  abbrev pub KeepsStart : Type 0
  KeepsStart = (n : ℕ) (t : Tree) (w : MatchState) → Each (HasStartBetween w) (ways s groups n t w)

  -- each way ends at or after its start, inside of the haystack
  abbrev pub WaysMoveForward : Type 0
  WaysMoveForward = (n : ℕ) (t : Tree) → MovesForward s.text (ways s groups n t)

  abbrev pub from : (ℕ → Moves) → ℕ → Tree → Moves
  from call n t = (meaning s groups call n t).from

  abbrev pub behind : (ℕ → Moves) → ℕ → Tree → Moves
  behind call n t = (meaning s groups call n t).behind

  -- an atomic group has one way at most
  abbrev pub AtomicHasOne : Type 0
  AtomicHasOne = (call : ℕ → Moves) (n : ℕ) (t : Tree) (w : MatchState) → length (from call n (atomic_group t) w) ≤ 1

  -- a look-around has a way for each way of its body, with its pairs alone
  abbrev pub LookAroundHasEach : Type 0
  LookAroundHasEach = (call : ℕ → Moves) (n : ℕ) (t : Tree) (w : MatchState) →
      (from call n (look_around t LookAhead) w ≡ keep_only_pairs w (from call n t w))
      × (from call n (look_around t LookBehind) w ≡ keep_only_pairs w (behind call n t w))

  -- and a negative one stays where it is, if its body has no way
  abbrev pub NegativeStays : Type 0
  NegativeStays = (call : ℕ → Moves) (n : ℕ) (t : Tree) (w : MatchState) →
      (from call n (look_around t LookAheadNeg) w ≡ match_empty_if (is_none_of (from call n t w)) w)
      × (from call n (look_around t LookBehindNeg) w ≡ match_empty_if (is_none_of (behind call n t w)) w)

  -- The bound on the calls is never what ends them.
  abbrev pub CallsAreUnbounded : Type 0
  CallsAreUnbounded = (m : ℕ) → max_open_calls groups ≤ m → (n : ℕ) (t : Tree) (w : MatchState) → from (call_ways s groups m []) n t w ≡ ways s groups n t w

module _ (s : Setting) where
  -- The bound on the iterations of a loop is never what ends it: a loop without a bound is one more iteration, or the end.
  abbrev pub LoopsAreUnbounded : Type 0
  LoopsAreUnbounded = (greedy : Bool) (body : Moves) → MovesForward s.text body → (w : MatchState) → w.position ≤ length s.text →
      repeat s 0 None greedy body w
      ≡ prefer greedy (flat_map (λ v. if v.position == w.position then v ∷ [] else repeat s 0 None greedy body v) (body w)) (w ∷ [])

  -- an iteration that is due comes first, and a bounded loop is one more iteration, or the end
  abbrev pub RepeatsUnroll : Type 0
  RepeatsUnroll = (lo hi : ℕ) (greedy : Bool) (body : Moves) (w : MatchState) →
      (repeat s (suc lo) None greedy body w ≡ flat_map (repeat s lo None greedy body) (body w))
      × (repeat s (suc lo) (Some (suc hi)) greedy body w ≡ flat_map (repeat s lo (Some hi) greedy body) (body w))
      × (repeat s 0 (Some (suc hi)) greedy body w ≡ prefer greedy (flat_map (repeat s 0 (Some hi) greedy body) (body w)) (w ∷ []))
      × (repeat s 0 (Some 0) greedy body w ≡ w ∷ [])

-- no match ends before it starts, or starts before the place from where it was tried
abbrev pub MatchesAreSpans : Type 0
MatchesAreSpans = (s : Setting) (pattern : Pattern) (find : Search) (p : ℕ) (m : Match) →
    match_at s pattern find p ≡ Some m → (p ≤ m.start) × (m.start ≤ m.end)

-- A tree has at most one way more than it has choices.
abbrev pub WaysAreFew : Type 0
WaysAreFew = (s : Setting) (groups : List Tree) (m : ℕ) (opened : List ℕ) (n : ℕ) (t : Tree) (w : MatchState) →
    length ((meaning s groups (call_ways s groups m opened) n t).from w)
    ≤ 1 + (count s groups (call_ways s groups m opened) (call_choices s groups m opened) n t).from w

-- each way of a row is a way of its first part and then one of the rest
abbrev pub RowSplits : Type 0
RowSplits = (ms ns : List Meaning) (w : MatchState) → all_of (ms ++ ns) w ≡ flat_map (all_of ns) (all_of ms w)

-- The first of all ways that something follows from, taken part by part, as a machine that goes back looks for it.
abbrev pub FirstGoesByParts : Type 0
FirstGoesByParts = (ms ns : List Meaning) (next : MatchState → Option MatchState) (w : MatchState) →
    first_some next (all_of (ms ++ ns) w) ≡ first_some (λ v. first_some next (all_of ns v)) (all_of ms w)
