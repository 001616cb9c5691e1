-- What states come to at a place, without reading and by reading.
use Rattle.std.specs.Prelude.{◌≡◌, ◌<◌, ◌≤◌, ◌⊎◌, ℕ, Bool, true, false, List, [], ◌∷◌, ◌++◌, Option, Some, None, length, if◌then◌else◌, Contains}
use Rattle.regex_hir.specs.Text.{is_some_and}
use Rattle.fancy_regex_class.specs.declared.class.CharClassMatcher.{CharClassMatcher}
use Rattle.fancy_regex_states.specs.Attempts.{View, Continuation, AllAgree, reads}
use Rattle.fancy_regex_states.specs.CharTests.{leaf_matches_char}
use Rattle.fancy_regex_states.specs.First.{state_at}
use Rattle.fancy_regex_states.specs.declared.state.State.{State}
use Rattle.fancy_regex_states.specs.declared.state.State.TheVariants as S
use Rattle.fancy_regex_table.specs.Ends.{or_else, end_if, end_at, first_end}
use Rattle.fancy_regex_table.specs.Sorts.{holds_between}
use Rattle.fancy_regex_table.specs.declared.close.Closed.{Closed}
use Rattle.fancy_regex_table.specs.declared.sort.Sort.{Sort}

-- the states do what `go` says and ask no parts, and the first match is wanted
pub record IsMeaning (states : List State) (view : View) (stop : ℕ) (go : ℕ → Continuation) : Type 0 where
  pub first : view.longest ≡ false
  pub no_parts : view.has_parts ≡ false
  pub agree : AllAgree view stop states go

-- the assertion of the state holds here as between characters of these sorts
abbrev pub HoldsAs : View → ℕ → Sort → Sort → State → Type 0
HoldsAs view i before after (S.Look test next) = view.holds test i ≡ holds_between test before after
HoldsAs view i before after _ = Unit {0}

abbrev pub AllHoldAs : List State → View → ℕ → Sort → Sort → Type 0
AllHoldAs states view i before after = (q : ℕ) → q < length states → HoldsAs view i before after (state_at states q)

-- the state reads here as it reads this character
abbrev pub ReadsAs : Bool → List CharClassMatcher → View → ℕ → ℕ → Option ℕ → State → Type 0
ReadsAs unicode matchers view stop i c (S.Read leaf next) = reads view stop leaf i ≡ is_some_and c (leaf_matches_char unicode matchers leaf)
ReadsAs unicode matchers view stop i c _ = Unit {0}

abbrev pub AllReadAs : Bool → List CharClassMatcher → List State → View → ℕ → ℕ → Option ℕ → Type 0
AllReadAs unicode matchers states view stop i c = (q : ℕ) → q < length states → ReadsAs unicode matchers view stop i c (state_at states q)

module _ (view : View) (stop : ℕ) (go : ℕ → Continuation) (i : ℕ) where
  -- where an attempt ends that reads a character here first
  abbrev pub read_end : State → Option ℕ
  read_end (S.Read leaf next) = if reads view stop leaf i then end_at go (view.next i) next else None
  read_end _ = None

  -- the end of the first of these states that reads and has one
  abbrev pub first_read : List State → List ℕ → Option ℕ
  first_read states [] = None
  first_read states (q ∷ qs) = or_else (read_end (state_at states q)) (first_read states qs)

-- the first way of these states is the first of those that read, or else it ends here, as it is said
abbrev pub IsClosing : List State → Sort → Sort → List ℕ → Closed → Type 0
IsClosing states before after from closed =
    (view : View) (stop : ℕ) (go : ℕ → Continuation) (i : ℕ) → IsMeaning states view stop go → i ≤ stop → AllHoldAs states view i before after
    → first_end go i from ≡ or_else (first_read view stop go i states closed.reads.items) (end_if closed.is_end i)

-- the first way of these states that read is the first of those that they lead to by this character
abbrev pub IsStep : Bool → List CharClassMatcher → List State → Option ℕ → List ℕ → List ℕ → Type 0
IsStep unicode matchers states c from nexts =
    (view : View) (stop : ℕ) (go : ℕ → Continuation) (i : ℕ) → AllReadAs unicode matchers states view stop i c
    → first_read view stop go i states from ≡ first_end go (view.next i) nexts

-- if neither those that they lead to have a way nor the others, none of these has one that reads
abbrev pub IsStepBeside : Bool → List CharClassMatcher → List State → Option ℕ → List ℕ → List ℕ → List ℕ → Type 0
IsStepBeside unicode matchers states c from others nexts =
    (view : View) (stop : ℕ) (go : ℕ → Continuation) (i : ℕ) → AllReadAs unicode matchers states view stop i c
    → first_end go (view.next i) others ≡ None → first_end go (view.next i) nexts ≡ None → first_read view stop go i states from ≡ None

-- the list with one more, unless that is there or among the others
abbrev pub IsAddedTo : ℕ → List ℕ → List ℕ → List ℕ → Type 0
IsAddedTo x others before after = (after ≡ before ++ x ∷ []) ⊎ ((after ≡ before) × (Contains before x ⊎ Contains others x))

abbrev pub IsNextAdded : Option ℕ → List ℕ → List ℕ → List ℕ → Type 0
IsNextAdded None others before after = after ≡ before
IsNextAdded (Some x) others before after = IsAddedTo x others before after

-- what the state leads to by reading this character
abbrev pub read_next : Bool → List CharClassMatcher → Option ℕ → State → Option ℕ
read_next unicode matchers c (S.Read leaf next) = if is_some_and c (leaf_matches_char unicode matchers leaf) then Some next else None
read_next unicode matchers c _ = None

-- what the state leads to without reading between characters of these sorts
abbrev pub epsilon_successors : Sort → Sort → State → List ℕ
epsilon_successors before after (S.Read leaf next) = []
epsilon_successors before after (S.Look test next) = if holds_between test before after then next ∷ [] else []
epsilon_successors before after (S.Split first second) = first ∷ second ∷ []
epsilon_successors before after (S.Enter group next) = next ∷ []
epsilon_successors before after (S.Leave group next) = next ∷ []
epsilon_successors before after S.Match = []
epsilon_successors before after (S.Back next) = []
epsilon_successors before after (S.Ask part negated next) = []
epsilon_successors before after (S.Atomic part same moved) = []

abbrev pub is_reader : State → Bool
is_reader (S.Read leaf next) = true
is_reader _ = false

abbrev pub is_final : State → Bool
is_final S.Match = true
is_final _ = false
