-- Shape conditions on core patterns.
use Rattle.std.specs.Prelude.{◌≡◌, ℕ, ◌<◌, ◌≤◌, Bool, true, false}
use Rattle.fancy_regex_desugar.specs.CorePatterns.{CorePattern, cat, alt, group, ahead, never, back, atomic, tail, repeat, conditional, absent, called}

-- It steps back only at the beginning of a look-around, or with `free` also at its own beginning.
abbrev pub StepsBackOnlyFirst : Bool → CorePattern → Type 0
StepsBackOnlyFirst free (back n) = free ≡ true
StepsBackOnlyFirst free (cat a b) = StepsBackOnlyFirst free a × StepsBackOnlyFirst false b
StepsBackOnlyFirst free (alt a b) = StepsBackOnlyFirst free a × StepsBackOnlyFirst free b
StepsBackOnlyFirst free (ahead a) = StepsBackOnlyFirst true a
StepsBackOnlyFirst free (never a) = StepsBackOnlyFirst true a
StepsBackOnlyFirst free (group k a) = StepsBackOnlyFirst false a
StepsBackOnlyFirst free (atomic a) = StepsBackOnlyFirst false a
StepsBackOnlyFirst free (tail t a) = StepsBackOnlyFirst false a
StepsBackOnlyFirst free (repeat a lo hi greedy) = StepsBackOnlyFirst false a
StepsBackOnlyFirst free (conditional c a b) = StepsBackOnlyFirst false c × StepsBackOnlyFirst false a × StepsBackOnlyFirst false b
StepsBackOnlyFirst free (absent a) = StepsBackOnlyFirst false a
StepsBackOnlyFirst free (called k a) = StepsBackOnlyFirst free a
StepsBackOnlyFirst free _ = Unit {0}

-- Each group number in it is at least `first` and less than `end`.
abbrev pub HasGroups : ℕ → ℕ → CorePattern → Type 0
HasGroups first end (group k a) = (first ≤ k) × (k < end) × HasGroups first end a
HasGroups first end (cat a b) = HasGroups first end a × HasGroups first end b
HasGroups first end (alt a b) = HasGroups first end a × HasGroups first end b
HasGroups first end (ahead a) = HasGroups first end a
HasGroups first end (never a) = HasGroups first end a
HasGroups first end (atomic a) = HasGroups first end a
HasGroups first end (tail t a) = HasGroups first end a
HasGroups first end (repeat a lo hi greedy) = HasGroups first end a
HasGroups first end (conditional c a b) = HasGroups first end c × HasGroups first end a × HasGroups first end b
HasGroups first end (absent a) = HasGroups first end a
HasGroups first end (called k a) = HasGroups first end a
HasGroups first end _ = Unit {0}
