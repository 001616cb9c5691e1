use Rattle.std.proofs.Common.{◌<◌, ℕ}
use Rattle.std.specs.Prelude.{slice_index_or}
use Rattle.fancy_regex_table.specs.Needed.{HasBegin}
use Rattle.fancy_regex_table.proofs.needed_maker.all_begin.Given as goal

abbrev pub invariant-loop-code : goal.invariant-loop-code
invariant-loop-code l = record { begins : (c : ℕ) → c < l.code → HasBegin l.places.begins.now l.reached (slice_index_or l.places.classes.now c 0) 0 }
