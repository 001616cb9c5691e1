use Rattle.std.proofs.Common.{◌≡◌, ℕ, ◌<◌, length}
use Rattle.fancy_regex_info.specs.AnalysisRelations.{mark_at}
use Rattle.fancy_regex_linear.specs.Translation.{is_made}
use Rattle.fancy_regex_linear.proofs.build.are_known.Given as goal

abbrev pub invariant-loop-i : goal.invariant-loop-i
invariant-loop-i l = record {
  same : length l.known.items ≡ l.i;
  marks : (j : ℕ) → j < l.i → mark_at l.known.items j ≡ is_made l.called j;
}
