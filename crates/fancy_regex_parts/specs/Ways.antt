-- What parts do: where the first way from a state at a place ends.
use Rattle.std.specs.Prelude.{◌≡◌, ℕ, ◌-◌, ◌<◌, Bool, true, false, List, length, Option, Some, None, not, ◌&&◌, option_and_then, option_map, if◌then◌else◌, nat_le, nat_lt, nat_eq, IsCharBoundary}
use Rattle.fancy_regex_class.specs.declared.class.CharClassMatcher.{CharClassMatcher}
use Rattle.fancy_regex_states.specs.Attempts.{View, AttemptResult, Continuation, ShowsAll}
use Rattle.fancy_regex_states.specs.First.{state_at}
use Rattle.fancy_regex_states.specs.declared.rules.Rules.{Rules}
use Rattle.fancy_regex_states.specs.declared.state.State.{State}
use Rattle.fancy_regex_states.specs.declared.state.State.TheVariants.{Split, Enter, Leave, Ask, Atomic, Match}
use Rattle.fancy_regex_states.specs.declared.state.State.TheVariants as S
use Rattle.fancy_regex_parts.specs.declared.step.EndRange.{EndRange}

-- For each state and each place where the first way from there ends, if there is one, and a number that falls along each edge of the
-- search.
pub record Ways : Type 0 where
  pub end : ℕ → ℕ → Option ℕ
  pub depth : ℕ → ℕ → ℕ

-- where the way of an attempt ends, if it has one
abbrev pub answer_end : AttemptResult → Option ℕ
answer_end r = option_map (λ t. t.end) r.answer

-- the ways of states that do what `go` says
abbrev pub ways_of : (ℕ → Continuation) → Ways
ways_of go = record { end = λ q i. answer_end (go q i); depth = λ q i. (go q i).depth }

-- the text alone: what the view says of it, and not what states may do
abbrev pub text_view : View → View
text_view view = record view { has_parts = false }

-- the first way, or else the second
abbrev pub or_else : Option ℕ → Option ℕ → Option ℕ
or_else (Some e) other = Some e
or_else None other = other

-- goes on if there is a way or, where it is negated, if there is none
abbrev pub if_asked : Bool → Option ℕ → Option ℕ → Option ℕ
if_asked false (Some e) next = next
if_asked false None next = None
if_asked true (Some e) next = None
if_asked true None next = next

-- where it goes on after a part that began at i and ends at e, and at which place: at `moved` at the end, or at `same` at i where it
-- moved nothing
abbrev pub state_after : ℕ → ℕ → ℕ → ℕ → ℕ
state_after i same moved e = if nat_lt i e then moved else same

abbrev pub place_after : ℕ → ℕ → ℕ
place_after i e = if nat_lt i e then e else i

-- whether the pattern's own final state matches at i
abbrev pub admits : EndRange → ℕ → Bool
admits range i = nat_le range.least i && nat_le i range.most

-- Where the final state of this number ends at i: there. The pattern's own, state 0, matches in the range alone.
abbrev pub match_end : EndRange → ℕ → ℕ → Option ℕ
match_end range q i = if nat_eq q 0 && not (admits range i) then None else Some i

module _ (view : View) (ways : Ways) (range : EndRange) (q : ℕ) where
  -- where the first way of a state, which has the number q, ends at a place
  abbrev pub first_way : State → ℕ → Option ℕ
  first_way (S.Read leaf next) i = if view.has leaf i then ways.end next (view.next i) else None
  first_way (S.Look check next) i = if view.holds check i then ways.end next i else None
  first_way (S.Back next) i = option_and_then (λ bytes. ways.end next (i - bytes)) (view.back i)
  first_way (Enter g next) i = ways.end next i
  first_way (Leave g next) i = ways.end next i
  first_way (Split first second) i = or_else (ways.end first i) (ways.end second i)
  first_way (Ask part negated next) i = if_asked negated (ways.end part i) (ways.end next i)
  first_way (Atomic part same moved) i = option_and_then (λ e. ways.end (state_after i same moved e) (place_after i e)) (ways.end part i)
  first_way Match i = match_end range q i

module _ (view : View) (ways : Ways) where
  -- each pair that this state leads to at i is less deep than d
  abbrev pub Falls : State → ℕ → ℕ → Type 0
  Falls (S.Read leaf next) i d = view.has leaf i ≡ true → ways.depth next (view.next i) < d
  Falls (S.Look check next) i d = view.holds check i ≡ true → ways.depth next i < d
  Falls (S.Back next) i d = (bytes : ℕ) → view.back i ≡ Some bytes → ways.depth next (i - bytes) < d
  Falls (Enter g next) i d = ways.depth next i < d
  Falls (Leave g next) i d = ways.depth next i < d
  Falls (Split first second) i d = (ways.depth first i < d) × (ways.depth second i < d)
  Falls (Ask part negated next) i d = (ways.depth part i < d) × (ways.depth next i < d)
  Falls (Atomic part same moved) i d =
      (ways.depth part i < d) × ((e : ℕ) → ways.end part i ≡ Some e → ways.depth (state_after i same moved e) (place_after i e) < d)
  Falls Match i d = Unit {0}

-- The view says what looks at the text show, and the states have these ways at each boundary of it.
pub record Explains (matchers : List CharClassMatcher) (rules : Rules) (range : EndRange) (states : List State) (text : List ℕ) (view : View)
    (ways : Ways) : Type 0 where
  pub shows : ShowsAll matchers rules text view
  pub ends : (q i : ℕ) → q < length states → IsCharBoundary text i → ways.end q i ≡ first_way view ways range q (state_at states q) i
  pub falls : (q i : ℕ) → q < length states → IsCharBoundary text i → Falls view ways (state_at states q) i (ways.depth q i)
