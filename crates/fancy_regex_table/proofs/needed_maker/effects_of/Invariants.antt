use Rattle.std.proofs.Common.{◌≡◌, ◌≤◌, length}
use Rattle.fancy_regex_table.specs.Needed.{AreEffects}
use Rattle.fancy_regex_table.proofs.needed_maker.effects_of.Given as goal

abbrev pub invariant-loop-class : goal.invariant-loop-class
invariant-loop-class l = record {
  low : 1 ≤ l.class;
  long : (length l.kept ≡ 256) × (length l.kept_wide ≡ 256) × (length l.reset ≡ 256) × (length l.reset_wide ≡ 256);
  effects : AreEffects l.cells l.places.fresh.now l.places.begins.now l.reached l.string (record {
    kept = l.kept;
    kept_wide = l.kept_wide;
    reset = l.reset;
    reset_wide = l.reset_wide;
  });
}
