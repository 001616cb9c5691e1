use Rattle.std.proofs.Common.{◌≡◌, ℕ, ◌<◌, length}
use Rattle.std.specs.Prelude.{slice_get}
use Rattle.fancy_regex_info.specs.AnalysisRelations.{mark_at}
use Rattle.fancy_regex_info.specs.BodySizes.{called, from_last}
use Rattle.fancy_regex_info.specs.Views.{size_at}
use Rattle.fancy_regex_info.proofs.tables.called_sizes.Given as goal

abbrev pub invariant-loop-group : goal.invariant-loop-group
invariant-loop-group l = record {
  same : length l.sizes.items ≡ l.group;
  sizes : (k : ℕ) → k < l.group → size_at l.sizes.items k ≡ called (mark_at l.recursive k) (slice_get (from_last l.bodies) k);
}
