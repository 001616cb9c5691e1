use Rattle.std.proofs.Common.{◌≡◌, false, not, ap, sym, ◌∙◌}
use Rattle.std.specs.BTreeSet.{contains}
use Rattle.std.specs.Ordering.{nat_cmp}
use Rattle.fancy_regex_tree.specs.Tree.{tree_of}
use Rattle.fancy_regex_analysis.proofs.ReferenceLemmas.{all_named, none_left_out, no_other, not_true, had_set, has_set}
use Rattle.fancy_regex_analysis.proofs.well_formed.references_agree.Goals as goal

pub returns-then-not-has_unlisted_reference : goal.returns-then-not-has_unlisted_reference
returns-then-not-has_unlisted_reference c =
    let t = tree_of c.args.tree.now.expr in
    let total = c.args.tree.now.total_groups in
    let s = c.args.tree.now.backrefs in (
      (λ h. all_named t total (contains nat_cmp s) s.keys (has_set s) (had_set s)
          (sym c.has_unlisted_reference.ensures ∙ c.if-not-has_unlisted_reference.true) (sym c.has_unknown_reference.ensures ∙ not_true c.has_unknown_reference.result h)),
      (λ h. ap not (c.has_unknown_reference.ensures ∙ no_other t total (contains nat_cmp s) s.keys (has_set s) (had_set s) h)),
    )

pub returns-else-not-has_unlisted_reference : goal.returns-else-not-has_unlisted_reference
returns-else-not-has_unlisted_reference c =
    let t = tree_of c.args.tree.now.expr in
    let total = c.args.tree.now.total_groups in
    let s = c.args.tree.now.backrefs in (
      (λ h. let none : c.has_unlisted_reference.result ≡ false = not_true c.has_unlisted_reference.result h in let some = c.if-not-has_unlisted_reference.false in cc),
      (λ h. ap not (c.has_unlisted_reference.ensures ∙ none_left_out t total (contains nat_cmp s) s.keys (has_set s) (had_set s) h)),
    )
