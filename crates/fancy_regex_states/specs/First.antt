-- The characters that a match can begin with.
use Rattle.std.specs.Prelude.{◌≡◌, ◌⊎◌, ◌<◌, ℕ, Bool, true, false, List, Option, Some, IfSome, Contains, slice_index_or, length, ◌≤◌}
use Rattle.std.specs.List.{list_any}
use Rattle.regex_hir.specs.Text.{is_some_and}
use Rattle.fancy_regex_class.specs.declared.class.CharClassMatcher.{CharClassMatcher}
use Rattle.fancy_regex_states.specs.CharTests.{leaf_matches_char}
use Rattle.fancy_regex_states.specs.declared.atom.Leaf.{Leaf}
use Rattle.fancy_regex_states.specs.declared.atom.Test.{Test}
use Rattle.fancy_regex_states.specs.declared.atom.Test.TheVariants.{StartText}
use Rattle.fancy_regex_states.specs.declared.first.FirstChars.{FirstChars}
use Rattle.fancy_regex_states.specs.declared.state.State.{State}
use Rattle.fancy_regex_states.specs.declared.state.State.TheVariants.{Split, Enter, Leave, Ask, Atomic, Match}
use Rattle.fancy_regex_states.specs.declared.state.State.TheVariants as S

-- the state of this number
abbrev pub state_at : List State → ℕ → State
state_at states q = slice_index_or states q Match

-- the test may hold after a character
abbrev pub MayHold : Test → Type 0
MayHold StartText = ⊥
MayHold _ = Unit {0}

-- the state leads to the state of this number without reading, where a character stands before
abbrev pub Leads : State → ℕ → Type 0
Leads (S.Read leaf next) p = ⊥
Leads (S.Look check next) p = MayHold check × (p ≡ next)
Leads (S.Back next) p = ⊥
Leads (Split first second) p = (p ≡ first) ⊎ (p ≡ second)
Leads (Enter g next) p = p ≡ next
Leads (Leave g next) p = p ≡ next
Leads (Ask part negated next) p = p ≡ next
Leads (Atomic part same moved) p = p ≡ part
Leads Match p = ⊥

-- the states that the entry leads to without reading, where a character stands before
pub data Reaches (states : List State) (entry : ℕ) : ℕ → Type 0 where
  here : Reaches states entry entry
  onward : (q p : ℕ) → Reaches states entry q → Leads (state_at states q) p → Reaches states entry p

-- the state is not final and steps not back, and if it reads, then not this character; `None` is the end of the text
abbrev pub CannotRead : Bool → List CharClassMatcher → Option ℕ → State → Type 0
CannotRead unicode matchers after (S.Read leaf next) = is_some_and after (leaf_matches_char unicode matchers leaf) ≡ false
CannotRead unicode matchers after (S.Back next) = ⊥
CannotRead unicode matchers after Match = ⊥
CannotRead unicode matchers after _ = Unit {0}

-- no match that begins at the entry reads this character first, nor is one empty, where a character stands before
abbrev pub CannotBegin : Bool → List CharClassMatcher → List State → ℕ → Option ℕ → Type 0
CannotBegin unicode matchers states entry after = (q : ℕ) → Reaches states entry q → CannotRead unicode matchers after (state_at states q)

-- the state is not final and steps not back, and if it reads, then no way goes on with this character after what it reads
abbrev pub CannotGoOn : Bool → List CharClassMatcher → List State → Option ℕ → State → Type 0
CannotGoOn unicode matchers states after (S.Read leaf next) = CannotBegin unicode matchers states next after
CannotGoOn unicode matchers states after (S.Back next) = ⊥
CannotGoOn unicode matchers states after Match = ⊥
CannotGoOn unicode matchers states after _ = Unit {0}

-- no match that begins at the entry reads this character second, nor ends before it, where a character stands before
abbrev pub CannotFollow : Bool → List CharClassMatcher → List State → ℕ → Option ℕ → Type 0
CannotFollow unicode matchers states entry after = (q : ℕ) → Reaches states entry q → CannotGoOn unicode matchers states after (state_at states q)

-- the ASCII characters that are marked are second in no match, after another character
abbrev pub RefusesSecond : Bool → List CharClassMatcher → List State → ℕ → List Bool → Type 0
RefusesSecond unicode matchers states entry marks = (c : ℕ) → c < 128 → slice_index_or marks c false ≡ true → CannotFollow unicode matchers states entry (Some c)

-- no match begins with a character that is not ASCII, nor is one empty at the end of the text, where a character stands before
abbrev pub RefusesWide : Bool → List CharClassMatcher → List State → ℕ → Type 0
RefusesWide unicode matchers states entry = (after : Option ℕ) → IfSome after (λ c. 128 ≤ c) → CannotBegin unicode matchers states entry after

-- what is marked was marked before
abbrev pub HasNoNewMarks : List Bool → List Bool → Type 0
HasNoNewMarks before after = (c : ℕ) → slice_index_or after c false ≡ true → slice_index_or before c false ≡ true

-- the state is not final and steps not back, and if it reads, then by one of these leaves
abbrev pub IsAmong : List Leaf → State → Type 0
IsAmong leaves (S.Read leaf next) = Contains leaves leaf
IsAmong leaves (S.Back next) = ⊥
IsAmong leaves Match = ⊥
IsAmong leaves _ = Unit {0}

-- one of the leaves matches the character
abbrev pub one_matches : Bool → List CharClassMatcher → List Leaf → ℕ → Bool
one_matches unicode matchers leaves c = list_any (λ leaf. leaf_matches_char unicode matchers leaf c) leaves

-- the table has the leaves of all states that are reached without reading, their answers for ASCII, and perhaps marks for second characters
pub record IsTableOf (unicode : Bool) (matchers : List CharClassMatcher) (states : List State) (entry : ℕ) (table : FirstChars) : Type 0 where
  pub leaves : (q : ℕ) → Reaches states entry q → IsAmong table.leaves.items (state_at states q)
  pub ascii : (c : ℕ) → c < 128 → slice_index_or table.ascii c false ≡ one_matches unicode matchers table.leaves.items c
  pub second : IfSome table.second (RefusesSecond unicode matchers states entry)

-- what the states of these numbers lead to has its number here
abbrev pub IsClosed : List State → List ℕ → Type 0
IsClosed states numbers = (q p : ℕ) → Contains numbers q → Leads (state_at states q) p → Contains numbers p

-- the second list begins with the first
abbrev pub Extends : List ℕ → List ℕ → Type 0
Extends before after = (length before ≤ length after) × ((k : ℕ) → k < length before → slice_index_or after k 0 ≡ slice_index_or before k 0)
