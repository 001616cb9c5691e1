-- A depth-first search over pairs of a state and a position, which looks at each pair once.
use Rattle.std.specs.Prelude.{◌≡◌, ℕ, ◌+◌, ◌<◌, ◌≤◌, ◌⊎◌, Bool, true, false, List, [], ◌∷◌, ◌++◌, length, Option, Some, None, slice_set, slice_index_or, IsCharBoundary, IfSome}
use Rattle.fancy_regex_states.specs.Attempts.{View, Trace, Continuation, score, NamesBelow, AllAgree, ShowsAll}
use Rattle.fancy_regex_linear.specs.Meaning.{Spot}
use Rattle.fancy_regex_linear.specs.Attempt.{better_spot, trace_end}
use Rattle.fancy_regex_states.specs.First.{state_at, CannotBegin, IsTableOf}
use Rattle.fancy_regex_class.specs.declared.class.CharClassMatcher.{CharClassMatcher}
use Rattle.fancy_regex_states.specs.declared.state.State.{State}
use Rattle.fancy_regex_linear.specs.declared.search.SearchContext.{SearchContext}
use Rattle.fancy_regex_linear.specs.declared.frame.Frame.{Frame}
use Rattle.fancy_regex_linear.specs.declared.frame.Frame.TheVariants.{Explore, Restore}
use Rattle.fancy_regex_linear.specs.declared.frame.SearchStep.{SearchStep}
use Rattle.fancy_regex_linear.specs.declared.frame.SearchStep.TheVariants.{Pair, Backtrack, Matched}

-- the frames with the last one first
unfoldable pub top_first : List Frame → List Frame
top_first [] = []
top_first (f ∷ fs) = top_first fs ++ f ∷ []

-- the slots once every write is undone
unfoldable pub slots_at_bottom : List Frame → List ℕ → List ℕ
slots_at_bottom [] slots = slots
slots_at_bottom (Explore q i ∷ rest) slots = slots_at_bottom rest slots
slots_at_bottom (Restore slot old ∷ rest) slots = slots_at_bottom rest (slice_set slots slot old)

-- each state names states
abbrev pub Closed : List State → Type 0
Closed states = (q : ℕ) → q < length states → NamesBelow (length states) (state_at states q)

-- q is a state, and i a place of the text between `base` and `stop`
pub record IsPair (text : List ℕ) (count stop base q i : ℕ) : Type 0 where
  pub state : q < count
  pub low : base ≤ i
  pub high : i ≤ stop
  pub boundary : IsCharBoundary text i

abbrev pub AllWithin : List ℕ → ℕ → ℕ → ℕ → List Frame → Type 0
AllWithin text count stop base [] = Unit {0}
AllWithin text count stop base (Explore q i ∷ rest) = IsPair text count stop base q i × AllWithin text count stop base rest
AllWithin text count stop base (Restore slot old ∷ rest) = AllWithin text count stop base rest

-- The view says what looks at the text show, and the states do what `go` says.
pub record Explains (context : SearchContext) (text : List ℕ) (view : View) (go : ℕ → Continuation) : Type 0 where
  pub longest : view.longest ≡ context.rules.longest
  pub shows : ShowsAll context.matchers.now context.rules text view
  pub agree : AllAgree view context.stop context.states.now go

-- the table of first characters, if there is one, is that of the states
abbrev pub HasTable : SearchContext → Type 0
HasTable context = ∥ IfSome context.first.now (IsTableOf context.rules.unicode context.matchers.now context.states.now context.entry) ∥₁

-- the ASCII characters that are marked begin no match, after another character
abbrev pub RefusesAscii : Bool → List CharClassMatcher → List State → ℕ → List Bool → Type 0
RefusesAscii unicode matchers states entry marks =
    (c : ℕ) → c < 128 → slice_index_or marks c false ≡ true → CannotBegin unicode matchers states entry (Some c)

-- those that are marked are refused by the states
abbrev pub HasMarks : SearchContext → Type 0
HasMarks context = ∥ RefusesAscii context.rules.unicode context.matchers.now context.states.now context.entry context.refused.now ∥₁

-- there is an end that scores r at least
abbrev pub Reaches : Bool → ℕ → Option Trace → Type 0
Reaches longest r None = ⊥
Reaches longest r (Some t) = r ≤ score longest t.end

abbrev pub IsAsGood : Bool → ℕ → Option Spot → Type 0
IsAsGood longest r None = ⊥
IsAsGood longest r (Some s) = r ≤ score longest s.at

module _ (longest : Bool) (go : ℕ → Continuation) where
  -- the best success on the stack
  unfoldable pub pending : List Frame → List ℕ → Option Spot
  pending [] slots = None
  pending (Explore q i ∷ rest) slots = better_spot longest (trace_end slots (go q i).answer) (pending rest slots)
  pending (Restore slot old ∷ rest) slots = pending rest (slice_set slots slot old)

  -- some pair on the stack reaches r, and it and those above it are less than d deep
  abbrev pub ReachesBelow : ℕ → ℕ → List Frame → Type 0
  ReachesBelow d r [] = ⊥
  ReachesBelow d r (Explore q i ∷ rest) = ((go q i).depth < d) × (Reaches longest r (go q i).answer ⊎ ReachesBelow d r rest)
  ReachesBelow d r (Restore slot old ∷ rest) = ReachesBelow d r rest

  -- what a marked pair reaches, the best so far reaches or the stack answers for
  abbrev pub Covers : (ℕ → ℕ → Type 0) → Option Spot → List Frame → Type 0
  Covers Seen best stack = (q i r : ℕ) → Seen q i → Reaches longest r (go q i).answer
      → IsAsGood longest r best ⊎ ReachesBelow (go q i).depth r stack

  -- The state of a search for `goal`, where `best` was found so far.
  pub record Dfs (goal best : Option Spot) (bottom : List ℕ) (Seen : ℕ → ℕ → Type 0) (stack : List Frame) (slots : List ℕ) : Type 0 where
    pub value : better_spot longest best (pending stack slots) ≡ goal
    pub covers : Covers Seen best stack
    pub unwinds : slots_at_bottom stack slots ≡ bottom

  -- the same after a pair at position i was looked at
  abbrev pub After : SearchStep → ℕ → Option Spot → Option Spot → List ℕ → (ℕ → ℕ → Type 0) → List Frame → List ℕ → Type 0
  After (Pair q j) i goal best bottom Seen stack slots = Dfs goal best bottom Seen (Explore q j ∷ stack) slots
  After Backtrack i goal best bottom Seen stack slots = Dfs goal best bottom Seen stack slots
  After Matched i goal best bottom Seen stack slots =
      Dfs goal (better_spot longest best (Some (record { at = i; slots = slots }))) bottom Seen stack slots

  -- each marked pair fails
  abbrev pub AllFail : (ℕ → ℕ → Type 0) → Type 0
  AllFail Seen = Covers Seen None []

abbrev pub IsStepWithin : List ℕ → ℕ → ℕ → ℕ → SearchStep → Type 0
IsStepWithin text count stop base (Pair q j) = IsPair text count stop base q j
IsStepWithin text count stop base Backtrack = Unit {0}
IsStepWithin text count stop base Matched = Unit {0}

-- how many frames a visit may leave: no more than it marks pairs, and where it leads on, it marks some
abbrev pub Progresses : SearchStep → ℕ → ℕ → ℕ → ℕ → Type 0
Progresses (Pair q j) marked now_marked len now_len = (marked < now_marked) × (now_len + marked ≤ len + now_marked)
Progresses Backtrack marked now_marked len now_len = (marked ≤ now_marked) × (now_len + marked ≤ len + now_marked)
Progresses Matched marked now_marked len now_len = (marked ≤ now_marked) × (now_len + marked ≤ len + now_marked)

-- how many frames a step over one state may leave
abbrev pub Grows : SearchStep → ℕ → ℕ → Type 0
Grows (Pair q j) len now_len = now_len ≤ len + 1
Grows Backtrack len now_len = now_len ≡ len
Grows Matched len now_len = now_len ≡ len

-- the stack before its top was taken off; empty if it had none
abbrev pub put_back : Option (ℕ × ℕ) → List Frame → List Frame
put_back None rest = []
put_back (Some top) rest = Explore top.0 top.1 ∷ rest

-- the stack and the slots, once each `Restore` at the top is carried out
unfoldable pub resume_result : List Frame → List ℕ → List Frame × List ℕ
resume_result [] slots = ([], slots)
resume_result (Explore state at ∷ rest) slots = (Explore state at ∷ rest, slots)
resume_result (Restore slot old ∷ rest) slots = resume_result rest (slice_set slots slot old)

-- where a way end_spot, with the slots then
abbrev pub end_spot : Option ℕ → List ℕ → Option Spot
end_spot None slots = None
end_spot (Some end) slots = Some (record { at = end; slots = slots })
