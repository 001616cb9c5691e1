use Rattle.std.proofs.Common.{ℕ, List, sym, subst}
use Rattle.fancy_regex_compiler.specs.Opened.{AreCounts}
use Rattle.fancy_regex_compiler.proofs.OpenedLemmas.{counts_none}
use Rattle.fancy_regex_compiler.proofs.open_calls.count_to.Goals as goal

pub zeros-preserved : goal.zeros-preserved
zeros-preserved c groups are =
    subst (λ (counts : List ℕ). AreCounts counts groups) (sym c.in_ok-push.ensures.items) (counts_none c.zeros.counts.items groups (c.zeros.invariant groups are))

pub returns-in_err-push-clause-counts : goal.returns-in_err-push-clause-counts
returns-in_err-push-clause-counts c groups are =
    subst (λ (counts : List ℕ). AreCounts counts groups) (sym c.in_err-push.ensures.items) (c.zeros.invariant groups are)
