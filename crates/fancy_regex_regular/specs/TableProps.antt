-- That a table is right, and that it asks for no place, is so in one way.
use Rattle.std.specs.Prelude.{◌≡◌, ◌↔◌, ℕ, ◌<◌, Bool, false, length}
use Rattle.std.specs.Coded.{×_prop, Unit-prop, le_prop, Coded-set, coded_ℕ, coded_bool}
use Rattle.fancy_regex_states.specs.Attempts.{NamesBelow}
use Rattle.fancy_regex_states.specs.declared.state.State.{State}
use Rattle.fancy_regex_states.specs.declared.state.State.TheVariants.{Split, Enter, Leave, Ask, Atomic, Match}
use Rattle.fancy_regex_states.specs.declared.state.State.TheVariants as S
use Rattle.fancy_regex_parts.specs.Tables.{IsTable}
use Rattle.fancy_regex_parts.specs.declared.table.PartTable.{PartTable}
use Rattle.fancy_regex_regular.specs.Continues.{AskNoPlace}

names_prop : (n : ℕ) (s : State) → IsProp (NamesBelow n s)
names_prop n (S.Read leaf next) = le_prop
names_prop n (S.Look check next) = le_prop
names_prop n (S.Back next) = le_prop
names_prop n (Split first second) = ×_prop le_prop le_prop
names_prop n (Enter g next) = le_prop
names_prop n (Leave g next) = le_prop
names_prop n (Ask part negated next) = ×_prop le_prop le_prop
names_prop n (Atomic part same moved) = hlevel le_prop
names_prop n Match = Unit-prop

pub table_prop : (table : PartTable) → IsProp (IsTable table)
table_prop table = hlevel (names_prop, le_prop, Coded-set coded_ℕ, Coded-set coded_bool)

pub place_prop : (continues : Bool) (table : PartTable) → IsProp (continues ≡ false ↔ AskNoPlace table.states.items)
place_prop continues table = hlevel (Coded-set coded_bool)
