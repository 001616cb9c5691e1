-- Sets of states.
use Rattle.std.specs.Prelude.{◌≡◌, ℕ, true, false, slice_index_or}
use Rattle.fancy_regex_table.specs.declared.close.StateSet.{StateSet}

-- the state is in the set
abbrev pub Has : StateSet → ℕ → Type 0
Has set q = slice_index_or set.marks.items q false ≡ true
