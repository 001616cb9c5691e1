-- What the table of a pattern alone tells of the matches of a search, before any attempt.
use Rattle.std.specs.Prelude.{◌≡◌, ◌+◌, ◌-◌, ◌*◌, ◌^◌, ◌≤◌, ℕ, false, List, ◌∷◌, Option, Some, None, min, replicate, length, IfSome, IsCharBoundary, IsUtf8}
use Rattle.std.specs.Char.{len_utf8}
use Rattle.regex_hir.specs.Text.{char_at}
use Rattle.fancy_regex_class.specs.Looks.{looked_text, look_count, SameCounter}
use Rattle.fancy_regex_class.specs.declared.counted.Counted.{Counted}
use Rattle.fancy_regex_states.specs.Attempts.{View, Continuation}
use Rattle.fancy_regex_table.specs.Ends.{end_of}
use Rattle.fancy_regex_linear.specs.Find.{places, places_from}
use Rattle.fancy_regex_linear.specs.Search.{Explains}
use Rattle.fancy_regex_linear.specs.Settled.{FailBetween}
use Rattle.fancy_regex_linear.specs.Starts.{IsStart, IsAfter}
use Rattle.fancy_regex_linear.specs.declared.alone.Alone.{Alone}
use Rattle.fancy_regex_linear.specs.declared.alone.Alone.TheVariants.{Found, NoMatch, Unknown}
use Rattle.fancy_regex_linear.specs.declared.search.SearchContext.{SearchContext}
use Rattle.fancy_regex_linear.specs.declared.starts.Start.{Start}

-- the slots of a pattern with so many groups, all unset
abbrev pub unset_slots : ℕ → List ℕ
unset_slots groups = replicate (2 * groups) (2 ^ 64 - 1)

-- no match starts from the first place on, before the second
abbrev pub AllFailBetween : SearchContext → List ℕ → ℕ → ℕ → Type 0
AllFailBetween context text from to = (view : View) (go : ℕ → Continuation) → Explains context text view go
    → FailBetween context text go from to

-- the text was looked at once at least for each of `tried` offsets, and twice at most for each of `passed`, and once more
pub record IsLookedFor (old new : Counted) (tried passed : ℕ) : Type 0 where
  pub at_least : min (look_count old + tried) (2 ^ 64 - 1) ≤ look_count new
  pub at_most : look_count new ≤ look_count old + 2 * passed + 1
  pub text : looked_text new ≡ looked_text old
  pub same_counter : SameCounter old new

-- A search stands at this place, and has not looked at it.
pub record IsOnWay (context : SearchContext) (old new : Counted) (from at : ℕ) : Type 0 where
  pub range : (from ≤ at) × (at ≤ context.stop)
  pub boundary : IsCharBoundary (looked_text old) at
  pub fails : AllFailBetween context (looked_text old) from at
  pub at_least : min (look_count old + (at - from)) (2 ^ 64 - 1) ≤ look_count new
  pub at_most : look_count new ≤ look_count old + 2 * (at - from)
  pub text : looked_text new ≡ looked_text old
  pub same_counter : SameCounter old new

-- no match starts from this place on
pub record IsNoneFrom (context : SearchContext) (old new : Counted) (from : ℕ) : Type 0 where
  pub fails : AllFailBetween context (looked_text old) from (context.stop + 1)
  pub looked : IsLookedFor old new (context.stop - from + 1) (context.stop - from)

-- A search has looked at this place, where this character stands.
pub record IsLookedAt (context : SearchContext) (old new : Counted) (from : ℕ) (place : ℕ × Option ℕ) : Type 0 where
  pub range : (from ≤ place.0) × (place.0 ≤ context.stop)
  pub boundary : IsCharBoundary (looked_text old) place.0
  pub after : place.1 ≡ char_at (looked_text old) place.0
  pub next : IfSome place.1 (λ c. IsCharBoundary (looked_text old) (place.0 + len_utf8 c))
  pub fails : AllFailBetween context (looked_text old) from place.0
  pub looked : IsLookedFor old new (place.0 - from + 1) (place.0 - from)

-- the starts from `from` on are passed over, up to this place, or all
abbrev pub IsPassedTo : SearchContext → Counted → Counted → ℕ → Option (ℕ × Option ℕ) → Type 0
IsPassedTo context old new from None = IsNoneFrom context old new from
IsPassedTo context old new from (Some place) = IsLookedAt context old new from place

-- the match that starts here is the first from `from` on
pub record IsFirstFrom (context : SearchContext) (text : List ℕ) (from start end : ℕ) : Type 0 where
  pub range : (from ≤ start) × (start ≤ context.stop)
  pub boundary : IsCharBoundary text start
  pub fails : AllFailBetween context text from start
  pub ends : (view : View) (go : ℕ → Continuation) → Explains context text view go
      → end_of (go context.entry start).answer ≡ Some end

-- The table does not tell of the start `place`. It has read the characters up to `read`, and no match starts before `from`.
pub record IsUnknownAt (context : SearchContext) (text : List ℕ) (place : Start) (from read : ℕ) : Type 0 where
  pub start : IsStart text context.stop place.at place
  pub split : places text false place.at context.stop ≡ place.at ∷ places_from text false place.next context.stop
  pub fails : AllFailBetween context text place.at from
  pub range : (place.at ≤ from) × (from ≤ read) × (read ≤ context.stop)
  pub boundaries : IsCharBoundary text from × IsCharBoundary text read

-- a start of which it does not tell is made of a place and the character there
abbrev pub IsUnknown : SearchContext → ℕ × Option ℕ → ℕ → ℕ → Alone → Type 0
IsUnknown context place from read (Found start end) = ⊥
IsUnknown context place from read NoMatch = ⊥
IsUnknown context place from read (Unknown start) =
    (start.place.at ≡ place.0) × (start.place.after ≡ place.1) × (start.from ≡ from) × (start.read ≡ read)
    × ((text : List ℕ) → IsUtf8 text → IsCharBoundary text place.0 → context.stop ≤ length text → char_at text place.0 ≡ place.1
    → places text false place.0 context.stop ≡ place.0 ∷ places_from text false start.place.next context.stop)
    × ((text : List ℕ) → IfSome place.1 (λ c. IsCharBoundary text (place.0 + len_utf8 c)) → IfSome start.place.next (IsAfter text context.stop place.0))

-- what the table alone says is so
abbrev pub AloneSays : SearchContext → Counted → Counted → ℕ → Alone → Type 0
AloneSays context old new first (Found start end) =
    IsFirstFrom context (looked_text old) first start end × IsLookedFor old new (start - first + 1) (context.stop - first)
AloneSays context old new first NoMatch = IsNoneFrom context old new first
AloneSays context old new first (Unknown start) =
    IsUnknownAt context (looked_text old) start.place start.from start.read × (first ≤ start.place.at)
    × AllFailBetween context (looked_text old) first start.place.at
    × IsLookedFor old new (start.place.at - first + 1) (start.place.at - first)

-- a start of which it does not tell is one of this text
abbrev pub IsAloneIn : SearchContext → List ℕ → Alone → Type 0
IsAloneIn context text (Found start end) = Unit {0}
IsAloneIn context text NoMatch = Unit {0}
IsAloneIn context text (Unknown start) = IsUnknownAt context text start.place start.from start.read

-- The table alone was asked from this start on, of a text that was looked at so often before, and says this.
pub record IsAskedFrom (context : SearchContext) (old new : Counted) (start : ℕ) (alone : Alone) : Type 0 where
  pub range : (start ≤ context.stop) × (context.stop ≤ length (looked_text old))
  pub boundary : IsCharBoundary (looked_text old) start
  pub says : AloneSays context old new start alone
