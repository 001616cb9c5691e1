-- That a pattern is sound is so in one way.
use Rattle.std.specs.Coded.{×_prop, Π_prop, Unit-prop, Coded-set, coded_bool}
use Rattle.fancy_regex_linear.specs.Re.{Re, nothing, read, test, cat, alt, group, repeat, ask, atomic, conditional}
use Rattle.fancy_regex_linear.specs.Program.{IsSound}

pub sound_prop : (x : Re) → IsProp (IsSound x)
sound_prop nothing = Unit-prop
sound_prop (read leaf) = Unit-prop
sound_prop (test check) = Unit-prop
sound_prop (cat a b) = ×_prop (sound_prop a) (sound_prop b)
sound_prop (alt a b) = ×_prop (sound_prop a) (sound_prop b)
sound_prop (group g a) = sound_prop a
sound_prop (repeat lo hi greedy strict a) = ×_prop (Π_prop λ e. Coded-set coded_bool _ _) (sound_prop a)
sound_prop (ask negated back a) = sound_prop a
sound_prop (atomic a) = sound_prop a
sound_prop (conditional c a b) = ×_prop (sound_prop c) (×_prop (sound_prop a) (sound_prop b))
