-- What states mean: the text as an attempt reads it, the answer of an attempt, and what each state gives at an offset.
use Rattle.std.specs.Prelude.{◌≡◌, ℕ, ◌+◌, ◌-◌, ◌*◌, ◌<◌, ◌≤◌, Bool, true, false, ◌&&◌, List, [], ◌∷◌, ◌++◌, length, Option, Some, None, option_map, unwrap_or, if◌then◌else◌, nat_lt, nat_le, IsCharBoundary}
use Rattle.std.specs.Char.{len_utf8}
use Rattle.regex_hir.specs.Text.{is_some_and, char_at, char_before}
use Rattle.fancy_regex_class.specs.declared.class.CharClassMatcher.{CharClassMatcher}
use Rattle.fancy_regex_states.specs.CharTests.{leaf_matches_char, passes}
use Rattle.fancy_regex_states.specs.First.{state_at}
use Rattle.fancy_regex_states.specs.declared.atom.Leaf.{Leaf}
use Rattle.fancy_regex_states.specs.declared.atom.Test.{Test}
use Rattle.fancy_regex_states.specs.declared.rules.Rules.{Rules}
use Rattle.fancy_regex_states.specs.declared.state.State.{State}
use Rattle.fancy_regex_states.specs.declared.state.State.TheVariants.{Split, Enter, Leave, Ask, Atomic, Match}
use Rattle.fancy_regex_states.specs.declared.state.State.TheVariants as S

-- The text as a search reads it, and whether the first or the longest match is wanted.
pub record View : Type 0 where
  -- whether the leaf matches the character at this offset
  pub has : Leaf → ℕ → Bool
  -- the offset after that character
  pub next : ℕ → ℕ
  -- how many bytes the character before this offset has, if there is one
  pub back : ℕ → Option ℕ
  pub holds : Test → ℕ → Bool
  -- leftmost-longest matching, instead of leftmost-first
  pub longest : Bool
  -- whether states may ask parts
  pub has_parts : Bool

-- The trace of a successful attempt: its end, and each (slot, offset) that was written, oldest first.
pub record Trace : Type 0 where
  pub end : ℕ
  pub writes : List (ℕ × ℕ)

-- the answer, and a number that falls along each edge of the search
pub record AttemptResult : Type 0 where
  pub answer : Option Trace
  pub depth : ℕ

abbrev pub Continuation : Type 0
Continuation = ℕ → AttemptResult

-- how good an end is
abbrev pub score : Bool → ℕ → ℕ
score longest end = if longest then end else 0

-- the first, unless the second is there and better
abbrev pub better : {A : Type 0} → (A → ℕ) → Option A → Option A → Option A
better rank None b = b
better rank (Some a) None = Some a
better rank (Some a) (Some b) = if nat_lt (rank a) (rank b) then Some b else Some a

abbrev pub better_trace : Bool → Option Trace → Option Trace → Option Trace
better_trace longest = better (λ t. score longest t.end)

abbrev pub failed : AttemptResult
failed = record { answer = None; depth = 0 }

abbrev pub accept : Continuation
accept i = record { answer = Some (record { end = i; writes = [] }); depth = 0 }

-- accepts as far as `stop`
abbrev pub accept_by : ℕ → Continuation
accept_by stop i = if nat_le i stop then accept i else failed

abbrev pub guard : Bool → AttemptResult → AttemptResult
guard b r = if b then record { answer = r.answer; depth = r.depth + 1 } else failed

abbrev pub write : ℕ → ℕ → Option Trace → Option Trace
write slot i None = None
write slot i (Some t) = Some (record { end = t.end; writes = (slot, i) ∷ t.writes })

abbrev pub save : ℕ → ℕ → AttemptResult → AttemptResult
save slot i r = record { answer = write slot i r.answer; depth = r.depth + 1 }

module _ (longest : Bool) where
  abbrev pub either : AttemptResult → AttemptResult → AttemptResult
  either a b = record { answer = better_trace longest a.answer b.answer; depth = a.depth + b.depth + 1 }

-- these writes before those of what follows
abbrev pub after_writes : List (ℕ × ℕ) → Option Trace → Option Trace
after_writes ws None = None
after_writes ws (Some t) = Some (record { end = t.end; writes = ws ++ t.writes })

-- what follows, where the part has a way or, negated, where it has none; a way's writes stand before the rest
abbrev pub asked_answer : Bool → Option Trace → Option Trace → Option Trace
asked_answer false None rest = None
asked_answer false (Some t) rest = after_writes t.writes rest
asked_answer true None rest = rest
asked_answer true (Some t) rest = None

abbrev pub asked : Bool → AttemptResult → AttemptResult → AttemptResult
asked negated part rest =
    record { answer = asked_answer negated part.answer rest.answer; depth = part.depth + rest.depth + 1 }

-- what follows at the end of the part's first way
abbrev pub passed_answer : Option Trace → Continuation → Option Trace
passed_answer None k = None
passed_answer (Some t) k = after_writes t.writes (k t.end).answer

abbrev pub passed_depth : Option Trace → Continuation → ℕ
passed_depth None k = 0
passed_depth (Some t) k = (k t.end).depth

abbrev pub passed : AttemptResult → Continuation → AttemptResult
passed part k = record { answer = passed_answer part.answer k; depth = part.depth + passed_depth part.answer k + 1 }

-- what follows at the offset so many bytes before, if there is one
abbrev pub stepped : Option ℕ → ℕ → Continuation → AttemptResult
stepped None i k = failed
stepped (Some bytes) i k = guard true (k (i - bytes))

-- after a part that was entered at i: at i where it ends there or before, else where it ends
unfoldable pub resume : ℕ → Continuation → Continuation → Continuation
resume i same moved j = if nat_lt i j then moved j else same i

-- after a node that began at i: `same` where it matched the empty string, `moved` where it did not
unfoldable pub pick : ℕ → Continuation → Continuation → Continuation
pick i same moved j = if nat_lt i j then moved j else same j

-- each state that this one names is below n
abbrev pub NamesBelow : ℕ → State → Type 0
NamesBelow n (S.Read leaf next) = next < n
NamesBelow n (S.Look check next) = next < n
NamesBelow n (S.Back next) = next < n
NamesBelow n (Split first second) = (first < n) × (second < n)
NamesBelow n (Enter g next) = next < n
NamesBelow n (Leave g next) = next < n
NamesBelow n (Ask part negated next) = (part < n) × (next < n)
NamesBelow n (Atomic part same moved) = (part < n) × (same < n) × (moved < n)
NamesBelow n Match = Unit {0}

-- the state asks a part, or steps back, only where states may
abbrev pub MayAsk : Bool → State → Type 0
MayAsk has_parts (S.Back next) = has_parts ≡ true
MayAsk has_parts (Ask part negated next) = has_parts ≡ true
MayAsk has_parts (Atomic part same moved) = has_parts ≡ true
MayAsk has_parts _ = Unit {0}

module _ (view : View) (stop : ℕ) where
  -- whether the leaf matches the character here, which ends by `stop`
  unfoldable pub reads : Leaf → ℕ → Bool
  reads leaf i = view.has leaf i && (nat_lt i (view.next i) && nat_le (view.next i) stop)

  -- what a state gives at i, where `go q` is what the state q gives
  abbrev pub visit : (ℕ → Continuation) → State → Continuation
  visit go (S.Read leaf next) i = guard (reads leaf i) (go next (view.next i))
  visit go (S.Look check next) i = guard (view.holds check i) (go next i)
  visit go (S.Back next) i = stepped (view.back i) i (go next)
  visit go (Split first second) i = either view.longest (go first i) (go second i)
  visit go (Enter g next) i = save (2 * g) i (go next i)
  visit go (Leave g next) i = save (2 * g + 1) i (go next i)
  visit go (Ask part negated next) i = asked negated (go part i) (go next i)
  visit go (Atomic part same moved) i = passed (go part i) (resume i (go same) (go moved))
  visit go Match i = accept i

  -- the state q does what `go q` says, as far as the states that it names do
  pub record Agrees (go : ℕ → Continuation) (count q : ℕ) (state : State) : Type 0 where
    pub names : NamesBelow count state
    pub asks : MayAsk view.has_parts state
    pub does : (i : ℕ) → i ≤ stop → go q i ≡ visit go state i

-- all states do what `go` says
abbrev pub AllAgree : View → ℕ → List State → (ℕ → Continuation) → Type 0
AllAgree view stop states go = (q : ℕ) → q < length states → Agrees view stop go (length states) q (state_at states q)

-- the view agrees with the characters before and after this offset, and states ask no parts
pub record Shows (matchers : List CharClassMatcher) (rules : Rules) (view : View) (at : ℕ) (before after : Option ℕ) : Type 0 where
  pub has : (leaf : Leaf) → view.has leaf at ≡ is_some_and after (leaf_matches_char rules.unicode matchers leaf)
  pub next : view.next at ≡ at + unwrap_or (option_map len_utf8 after) 1
  pub back : view.back at ≡ option_map len_utf8 before
  pub holds : (test : Test) → view.holds test at ≡ passes matchers rules test at before after
  pub no_parts : view.has_parts ≡ false

-- it does so of each boundary of the text
abbrev pub ShowsAll : List CharClassMatcher → Rules → List ℕ → View → Type 0
ShowsAll matchers rules text view =
    (at : ℕ) → IsCharBoundary text at → Shows matchers rules view at (char_before text at) (char_at text at)
