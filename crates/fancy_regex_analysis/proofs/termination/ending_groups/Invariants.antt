use Rattle.std.proofs.Common.{◌≡◌, ℕ, map}
use Rattle.fancy_regex_analysis.specs.TerminationFixpoint.{iterated_end}
use Rattle.fancy_regex_analysis.specs.TerminationFixpoint.{ends_in}
use Rattle.fancy_regex_info.specs.Views.{body_tree}
use Rattle.fancy_regex_analysis.proofs.termination.ending_groups.Given as goal

abbrev pub invariant-loop-iteration : goal.invariant-loop-iteration
invariant-loop-iteration l = (k : ℕ) → ends_in l.ends.items k ≡ iterated_end (map body_tree l.groups) l._iteration k
