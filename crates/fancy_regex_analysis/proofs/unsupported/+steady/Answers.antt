use Rattle.std.proofs.Common.{sym, ◌∙◌}
use Rattle.fancy_regex_meaning.specs.Sizes.{size_with}
use Rattle.fancy_regex_info.specs.Views.{size_at}
use Rattle.fancy_regex_analysis.proofs.AllLemmas.{all_fails, all_goes_on, all_holds}
use Rattle.fancy_regex_analysis.proofs.PartLemmas.{all_steady, more_steady}
use Rattle.fancy_regex_analysis.specs.UnsupportedParts.{is_fixed_length, are_fixed_length}
use Rattle.fancy_regex_analysis.proofs.unsupported.+steady.Goals as goal

pub are_fixed_length-returns-then-not-is_fixed_length : goal.are_fixed_length-returns-then-not-is_fixed_length
are_fixed_length-returns-then-not-is_fixed_length t c =
    let S = size_with (size_at c.args.sizes.now) in
    all_fails (is_fixed_length S) (are_fixed_length S) (all_steady S) (more_steady S) c.args.branches.now c.loop-branch.branch-index c.branch-item.result c.loop-branch-test.true
    c.branch-item.is c.loop-branch.invariant (sym c.is_fixed_length.ensures ∙ c.if-not-is_fixed_length.true)

pub are_fixed_length-loop-branch-preserved : goal.are_fixed_length-loop-branch-preserved
are_fixed_length-loop-branch-preserved t c =
    let S = size_with (size_at c.args.sizes.now) in
    all_goes_on (is_fixed_length S) (are_fixed_length S) (all_steady S) (more_steady S) c.args.branches.now c.loop-branch.branch-index c.branch-item.result c.loop-branch-test.true
    c.branch-item.is c.loop-branch.invariant (sym c.is_fixed_length.ensures ∙ c.if-not-is_fixed_length.false)

pub are_fixed_length-returns : goal.are_fixed_length-returns
are_fixed_length-returns t c =
    let S = size_with (size_at c.args.sizes.now) in
    all_holds (is_fixed_length S) (are_fixed_length S) (all_steady S) (more_steady S) c.args.branches.now c.loop-branch.branch-index c.loop-branch-test.false
    c.loop-branch.invariant
