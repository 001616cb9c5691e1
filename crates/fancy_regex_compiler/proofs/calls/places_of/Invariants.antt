use Rattle.std.proofs.Common.{◌≡◌, ℕ, length}
use Rattle.fancy_regex_compiler.specs.Kept.{AreStacked, ArePlaces, table_of}
use Rattle.fancy_regex_compiler.proofs.calls.places_of.Given as goal

abbrev pub invariant-loop-body : goal.invariant-loop-body
invariant-loop-body l = record {
  count : length l.places.of_groups.items ≡ length l.bodies.written.items;
  places : (from : ℕ) → AreStacked from l.bodies.end l.bodies.list.items →
      ArePlaces l.bodies.list.items from l.bodies.end l.body-index (table_of l.places.of_groups.items) l.places.end;
}
