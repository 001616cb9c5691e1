-- What the table of a pattern tells of the matches of a search, before any attempt.
use Rattle.std.specs.Prelude.{◌≡◌, ◌+◌, ◌≤◌, ℕ, Bool, true, false, List, Option, is_some, unwrap_or, IsCharBoundary}
use Rattle.fancy_regex_meaning.specs.Groups.{Pattern}
use Rattle.fancy_regex_class.specs.declared.input.RunInput.{RunInput}
use Rattle.fancy_regex_states.specs.Attempts.{View, Continuation}
use Rattle.fancy_regex_linear.specs.EasyPatterns.{IsEasyOf, match_for}
use Rattle.fancy_regex_linear.specs.Find.{earliest, places}
use Rattle.fancy_regex_linear.specs.Search.{Explains}
use Rattle.fancy_regex_linear.specs.Settled.{FailBetween}
use Rattle.fancy_regex_linear.specs.Starts.{spot_from}
use Rattle.fancy_regex_linear.specs.declared.easy.Easy.{Easy}
use Rattle.fancy_regex_linear.specs.declared.search.SearchContext.{SearchContext}
use Rattle.fancy_regex_linear.specs.declared.verdict.Verdict.{Verdict}
use Rattle.fancy_regex_linear.specs.declared.verdict.Verdict.TheVariants.{Match, NoMatch, NoneBefore}

-- no match starts from this place on: before a later one, or at all
abbrev pub IsPassedOver : SearchContext → List ℕ → ℕ → Option ℕ → Type 0
IsPassedOver context text from start = (view : View) (go : ℕ → Continuation) → Explains context text view go
    → FailBetween context text go from (unwrap_or start (context.stop + 1))

-- what is told of the starts from this place on, by a search from this state up to `stop`, is so, with these slots
abbrev pub IsVerdictAt : List ℕ → ℕ → ℕ → ℕ → (ℕ → Continuation) → List ℕ → Verdict → Type 0
IsVerdictAt text entry stop from go slots Match = is_some (earliest (spot_from go entry slots) (places text false from stop)) ≡ true
IsVerdictAt text entry stop from go slots NoMatch = is_some (earliest (spot_from go entry slots) (places text false from stop)) ≡ false
IsVerdictAt text entry stop from go slots (NoneBefore at) =
    earliest (spot_from go entry slots) (places text false from stop) ≡ earliest (spot_from go entry slots) (places text false at stop)

abbrev pub IsVerdictOf : SearchContext → List ℕ → ℕ → (ℕ → Continuation) → List ℕ → Verdict → Type 0
IsVerdictOf context text from go slots verdict = IsVerdictAt text context.entry context.stop from go slots verdict

abbrev pub IsVerdict : SearchContext → List ℕ → ℕ → Verdict → Type 0
IsVerdict context text from verdict = (view : View) (go : ℕ → Continuation) → Explains context text view go → (slots : List ℕ) → IsVerdictOf context text from go slots verdict

-- the place lies in the range
abbrev pub IsVerdictInRange : List ℕ → ℕ → ℕ → Verdict → Type 0
IsVerdictInRange text from stop Match = Unit {0}
IsVerdictInRange text from stop NoMatch = Unit {0}
IsVerdictInRange text from stop (NoneBefore at) = (from ≤ at) × (at ≤ stop) × IsCharBoundary text at

-- whether there is a match
abbrev pub has_match : Easy → List ℕ → RunInput → Pattern → Bool
has_match easy text input pattern = is_some (match_for easy text input pattern)

-- the answer is whether there is a match
abbrev pub IsMatchFlag : Easy → List ℕ → RunInput → Bool → Type 0
IsMatchFlag easy text input answer = (pattern : Pattern) → IsEasyOf easy pattern → answer ≡ has_match easy text input pattern

-- what is told of the matches of a pattern is so
abbrev pub IsVerdictFor : Easy → List ℕ → RunInput → Verdict → Pattern → Type 0
IsVerdictFor easy text input Match pattern = has_match easy text input pattern ≡ true
IsVerdictFor easy text input NoMatch pattern = has_match easy text input pattern ≡ false
IsVerdictFor easy text input (NoneBefore at) pattern =
    has_match easy text input pattern ≡ has_match easy text (record input { first = at }) pattern

-- the search goes on at a character of the text
abbrev pub GoesOnIn : List ℕ → Verdict → Type 0
GoesOnIn text Match = Unit {0}
GoesOnIn text NoMatch = Unit {0}
GoesOnIn text (NoneBefore at) = IsCharBoundary text at
