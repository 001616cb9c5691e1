-- What the searches of an iteration over one text are paid for. With each search the sum of its looks and of what was paid before it grows by
-- no more than what is paid after it, and a number of looks for each start that it tries. So the looks of all searches together are bounded
-- as those of one: what is paid is never more than so many looks for each place of the text.
use Rattle.std.specs.Prelude.{◌+◌, ◌*◌, ◌≤◌, ℕ, List, Option, Some, None, length, IfSome}
use Rattle.fancy_regex_class.specs.declared.input.RunInput.{RunInput}
use Rattle.fancy_regex_meaning.specs.Groups.{Pattern}
use Rattle.fancy_regex_parts.specs.Find.{tried}
use Rattle.fancy_regex_parts.specs.Tables.{known_cost, table_weight}
use Rattle.fancy_regex_parts.specs.declared.memory.PartMemory.{PartMemory}
use Rattle.fancy_regex_regular.specs.Inputs.{Serves}
use Rattle.fancy_regex_regular.specs.Regulars.{IsRegularOf, continue_place, lowest_asked}
use Rattle.fancy_regex_regular.specs.Starts.{last_start}
use Rattle.fancy_regex_regular.specs.Weights.{tree_state_weight}
use Rattle.fancy_regex_regular.specs.declared.memory.Kept.{Kept}
use Rattle.fancy_regex_regular.specs.declared.memory.RegularMemory.{RegularMemory}
use Rattle.fancy_regex_regular.specs.declared.regular.Regular.{Regular}

-- what is paid: all pairs at places before the first row, and those of which something is known
abbrev pub paid_by : Regular → PartMemory → ℕ
paid_by regular parts = table_weight regular.table * parts.recall.base + known_cost regular.table parts.recall

-- what is paid before a search with this input; the first search of an iteration pays for all places before those that it asks about
abbrev pub paid_in : Regular → RunInput → PartMemory → Option Kept → ℕ
paid_in regular input parts None = table_weight regular.table * lowest_asked regular input
paid_in regular input parts (Some kept) = paid_by regular parts

abbrev pub paid_before : Regular → RunInput → RegularMemory → ℕ
paid_before regular input memory = paid_in regular input memory.parts memory.kept

-- nothing is kept, or it serves a search with this input
abbrev pub MayServe : Regular → Option Kept → RunInput → Type 0
MayServe regular None input = Unit {0}
MayServe regular (Some kept) input = Serves kept input (continue_place regular input) (lowest_asked regular input)

-- the looks of a search of an iteration that found this
abbrev pub LooksOn : Regular → RunInput → RegularMemory → RegularMemory → ℕ → ℕ → Option (ℕ × ℕ) → Type 0
LooksOn regular input memory new_memory old new found = MayServe regular memory.kept input → (pattern : Pattern) → IsRegularOf regular pattern
    → new + paid_before regular input memory
    ≤ old + paid_by regular new_memory.parts + 2 * tree_state_weight pattern.groups pattern.tree * tried input.first (last_start input) found

-- what is paid is no more than so many looks for each place
abbrev pub IsPaidWithin : Regular → List ℕ → PartMemory → Type 0
IsPaidWithin regular text parts = (pattern : Pattern) → IsRegularOf regular pattern
    → paid_by regular parts ≤ 2 * tree_state_weight pattern.groups pattern.tree * (length text + 1)
