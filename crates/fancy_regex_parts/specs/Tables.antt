-- A table of states with marks, and what a visit of each state costs.
use Rattle.std.specs.Prelude.{◌≡◌, ℕ, ◌+◌, ◌-◌, ◌*◌, ◌%◌, ◌^◌, ◌<◌, ◌≤◌, ◌||◌, Bool, true, false, List, length, Option, Some, None, max, min, sum_by, slice_index_or}
use Rattle.fancy_regex_states.specs.Attempts.{NamesBelow}
use Rattle.fancy_regex_states.specs.First.{state_at}
use Rattle.fancy_regex_states.specs.declared.state.State.{State}
use Rattle.fancy_regex_states.specs.declared.state.State.TheVariants.{Split, Enter, Leave, Ask, Atomic, Match}
use Rattle.fancy_regex_states.specs.declared.state.State.TheVariants as S
use Rattle.fancy_regex_parts.specs.Recall.{known_weight}
use Rattle.fancy_regex_parts.specs.declared.recall.Recall.{Recall}
use Rattle.fancy_regex_parts.specs.declared.table.PartTable.{PartTable}

-- the mark of a state, if it has one
abbrev pub mark_of : PartTable → ℕ → Option ℕ
mark_of table q = slice_index_or table.marks.items q None

-- how many looks it takes to try a state, where those at the marked states after it are not counted
abbrev pub cost_of : PartTable → ℕ → ℕ
cost_of table q = slice_index_or table.costs.items q 0

abbrev pub due_of : Option ℕ → ℕ → ℕ
due_of (Some mark) cost = 0
due_of None cost = cost

-- the same of a state that another one leads to: a marked one is paid for once, by its mark
abbrev pub due : PartTable → ℕ → ℕ
due table q = due_of (mark_of table q) (cost_of table q)

-- what is due for the states that this one leads to; after an atomic group one of the two is tried
abbrev pub owed : PartTable → State → ℕ
owed table (S.Read leaf next) = due table next
owed table (S.Look check next) = due table next
owed table (S.Back next) = due table next
owed table (Enter g next) = due table next
owed table (Leave g next) = due table next
owed table (Split first second) = due table first + due table second
owed table (Ask part negated next) = due table part + due table next
owed table (Atomic part same moved) = due table part + max (due table same) (due table moved)
owed table Match = 0

-- the parts' weight, what all marked states cost: a bound on the looks for each place, over all questions
abbrev pub table_weight : PartTable → ℕ
table_weight table = sum_by (cost_of table) table.heads.items

-- what all marked states cost together at the places of a text from this one on
abbrev pub cost_from : PartTable → List ℕ → ℕ → ℕ
cost_from table text base = (length text - base + 1) * table_weight table

-- what the state costs whose mark a cell of a row of marks has, by the cell's number
abbrev pub cell_cost : PartTable → ℕ → ℕ
cell_cost table k = cost_of table (slice_index_or table.heads.items (k % length table.heads.items) 0)

-- what the pairs cost of which something is known
abbrev pub known_cost : PartTable → Recall → ℕ
known_cost table recall = known_weight (cell_cost table) recall

-- over how many characters a search from this state steps back at most, seen from its place; the last `usize` is no bound
abbrev pub reach_of : PartTable → ℕ → ℕ
reach_of table q = slice_index_or table.reaches.items q 0

-- the least byte offset that such a search is asked about: a character has four bytes at most
abbrev pub lowest_of : PartTable → ℕ → ℕ → ℕ
lowest_of table q at = at - min (4 * reach_of table q) (2 ^ 64 - 1)

-- what the reach of a state has to be at least, by those of the states that it leads to
abbrev pub needed_reach_of : PartTable → State → ℕ
needed_reach_of table (S.Read leaf next) = reach_of table next
needed_reach_of table (S.Look check next) = reach_of table next
needed_reach_of table (S.Back next) = min (reach_of table next + 1) (2 ^ 64 - 1)
needed_reach_of table (Enter g next) = reach_of table next
needed_reach_of table (Leave g next) = reach_of table next
needed_reach_of table (Split first second) = max (reach_of table first) (reach_of table second)
needed_reach_of table (Ask part negated next) = max (reach_of table part) (reach_of table next)
needed_reach_of table (Atomic part same moved) = max (reach_of table part) (max (reach_of table same) (reach_of table moved))
needed_reach_of table Match = 0

-- the least byte offset that a search is asked about that goes on after this state
abbrev pub lowest_for : PartTable → State → ℕ → ℕ
lowest_for table state at = at - min (4 * needed_reach_of table state) (2 ^ 64 - 1)

-- whether a way from this state may write a slot, by this list
abbrev pub may_write : List Bool → ℕ → Bool
may_write writes q = slice_index_or writes q true

-- whether this state writes a slot, or a way from one that it leads to may; a part that must have no way writes none
abbrev pub leads_to_write : List Bool → State → Bool
leads_to_write writes (S.Read leaf next) = may_write writes next
leads_to_write writes (S.Look check next) = may_write writes next
leads_to_write writes (S.Back next) = may_write writes next
leads_to_write writes (Enter g next) = true
leads_to_write writes (Leave g next) = true
leads_to_write writes (Split first second) = may_write writes first || may_write writes second
leads_to_write writes (Ask part false next) = may_write writes part || may_write writes next
leads_to_write writes (Ask part true next) = may_write writes next
leads_to_write writes (Atomic part same moved) = may_write writes part || (may_write writes same || may_write writes moved)
leads_to_write writes Match = false

-- what is right of the state q
pub record IsRightAt (table : PartTable) (q : ℕ) : Type 0 where
  -- it names states
  pub closed : NamesBelow (length table.states.items) (state_at table.states.items q)
  -- its mark is its own, and no marked state costs more than this
  pub marked : (mark : ℕ) → mark_of table q ≡ Some mark
      → (mark < length table.heads.items) × (slice_index_or table.heads.items mark 0 ≡ q) × (cost_of table q ≤ table.most)
  -- it costs no more than there are states
  pub cheap : cost_of table q ≤ length table.states.items
  -- its cost is enough for it and those after it
  pub paid : owed table (state_at table.states.items q) + 1 ≤ cost_of table q
  -- its reach is enough for those after it
  pub reaches : needed_reach_of table (state_at table.states.items q) ≤ reach_of table q
  -- where no way from it writes, it leads to no state from which one may
  pub no_write : may_write table.writes.items q ≡ false → leads_to_write table.writes.items (state_at table.states.items q) ≡ false

-- whether this state steps back over a character
abbrev pub steps_back : State → Bool
steps_back (S.Back next) = true
steps_back _ = false

-- none of these states steps back
abbrev pub AreStill : List State → Type 0
AreStill states = (q : ℕ) → q < length states → steps_back (state_at states q) ≡ false

-- a search from a state steps back over no character where no state does
abbrev pub IsStill : PartTable → Type 0
IsStill table = AreStill table.states.items → (q : ℕ) → reach_of table q ≡ 0

-- all states are right, the parts weigh no more than there are states, no marked state costs much more, and where no state steps back
-- no reach is above 0
pub record IsTable (table : PartTable) : Type 0 where
  pub right : (q : ℕ) → q < length table.states.items → IsRightAt table q
  pub light : table_weight table ≤ length table.states.items
  pub cheap : table.most ≤ length table.states.items + 1
  pub still : IsStill table

-- each of these states leads to states that are there
abbrev pub AreClosed : List State → Type 0
AreClosed states = (q : ℕ) → q < length states → NamesBelow (length states) (state_at states q)
