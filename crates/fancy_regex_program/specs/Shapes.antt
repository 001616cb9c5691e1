-- The shape of a pattern that programs are made of.
use Rattle.std.specs.Prelude.{◌≡◌, ℕ, ◌<◌, ◌≤◌, Bool, true, false, IsTrue, All, Option, Some, None}
use Rattle.fancy_regex_class.specs.Classes.{is_class}
use Rattle.fancy_regex_desugar.specs.CorePatterns.{CharacterTest, class, CorePattern, read, keep_out, cat, alt, group, ahead, never, atomic, delegate, tail, repeat, backref, exists, conditional, absent, called}
use Rattle.fancy_regex_desugar.specs.Shapes.{StepsBackOnlyFirst}
use Rattle.fancy_regex_linear.specs.Plain.{classes}
use Rattle.fancy_regex_linear.specs.Refusals.{IsRead}
use Rattle.fancy_regex_program.specs.Machine.{unset}

-- The match start stays as it is.
abbrev pub KeepsNothing : CorePattern → Type 0
KeepsNothing keep_out = ⊥
KeepsNothing (cat a b) = KeepsNothing a × KeepsNothing b
KeepsNothing (alt a b) = KeepsNothing a × KeepsNothing b
KeepsNothing (group k a) = KeepsNothing a
KeepsNothing (atomic a) = KeepsNothing a
KeepsNothing (tail t a) = KeepsNothing a
KeepsNothing (repeat a lo hi greedy) = KeepsNothing a
KeepsNothing (conditional c a b) = KeepsNothing c × KeepsNothing a × KeepsNothing b
KeepsNothing (called k a) = KeepsNothing a
KeepsNothing _ = Unit {0}

-- the least count of a repeat without a greatest one can be counted past
abbrev pub IsCounted : ℕ → Option ℕ → Type 0
IsCounted lo None = lo < unset
IsCounted lo (Some hi) = Unit {0}

-- Each group that it has or reads has a number from `first` on, below `end`; no look-around keeps a start; and no absent
-- repeater's body goes back before where it begins.
abbrev pub IsWritable : ℕ → ℕ → CorePattern → Type 0
IsWritable first end (cat a b) = IsWritable first end a × IsWritable first end b
IsWritable first end (alt a b) = IsWritable first end a × IsWritable first end b
IsWritable first end (group k a) = (first ≤ k) × (k < end) × IsWritable first end a
IsWritable first end (ahead a) = KeepsNothing a × IsWritable first end a
IsWritable first end (never a) = IsWritable first end a
IsWritable first end (atomic a) = IsWritable first end a
IsWritable first end (tail t a) = IsWritable first end a
IsWritable first end (repeat a lo hi greedy) = IsCounted lo hi × IsWritable first end a
IsWritable first end (backref k casei) = (first ≤ k) × (k < end)
IsWritable first end (exists k) = (first ≤ k) × (k < end)
IsWritable first end (conditional c a b) = IsWritable first end c × IsWritable first end a × IsWritable first end b
IsWritable first end (absent a) = StepsBackOnlyFirst false a × IsWritable first end a
IsWritable first end (called k a) = IsWritable first end a
IsWritable first end _ = Unit {0}

-- the grammar of `regex` reads it, if it is a class
abbrev pub IsReadable : Bool → CharacterTest → Type 0
IsReadable unicode (class text casei) = IsTrue (is_class unicode text casei)
IsReadable unicode _ = Unit {0}

-- What the compiler lets through, in Unicode mode or outside it, where the match start may be set or not: an endless repeat's
-- least count can be counted past; neither a look-around nor an absent repeater sets the match start; and the grammar of `regex`
-- reads each class.
abbrev pub IsAllowed : Bool → Bool → CorePattern → Type 0
IsAllowed unicode keeps (read c) = IsReadable unicode c
IsAllowed unicode keeps keep_out = keeps ≡ true
IsAllowed unicode keeps (cat a b) = IsAllowed unicode keeps a × IsAllowed unicode keeps b
IsAllowed unicode keeps (alt a b) = IsAllowed unicode keeps a × IsAllowed unicode keeps b
IsAllowed unicode keeps (group k a) = IsAllowed unicode keeps a
IsAllowed unicode keeps (ahead a) = IsAllowed unicode false a
IsAllowed unicode keeps (never a) = IsAllowed unicode false a
IsAllowed unicode keeps (atomic a) = IsAllowed unicode keeps a
IsAllowed unicode keeps (delegate t a) = All (IsRead unicode) (classes t)
IsAllowed unicode keeps (tail t a) = All (IsRead unicode) (classes t) × IsAllowed unicode keeps a
IsAllowed unicode keeps (repeat a lo hi greedy) = IsCounted lo hi × IsAllowed unicode keeps a
IsAllowed unicode keeps (conditional c a b) = IsAllowed unicode keeps c × IsAllowed unicode keeps a × IsAllowed unicode keeps b
IsAllowed unicode keeps (absent a) = IsAllowed unicode false a
IsAllowed unicode keeps (called k a) = IsAllowed unicode keeps a
IsAllowed unicode keeps _ = Unit {0}
