use Rattle.std.proofs.Common.{◌≡◌, Some, refl, ap, sym, ◌∙◌}
use Rattle.fancy_regex_tree.specs.Tree.{tree_of}
use Rattle.fancy_regex_meaning.specs.Groups.{pattern_of}
use Rattle.fancy_regex_bytes.specs.ByteSets.{has}
use Rattle.fancy_regex_bytes.specs.StartBytes as meant
use Rattle.fancy_regex_bytes.specs.StartBytes.{if_known}
use Rattle.fancy_regex_bytes.proofs.StartLemmas.{answer_of}
use Rattle.fancy_regex_bytes.proofs.StartLaw.{start_bytes_hold}
use Rattle.fancy_regex_bytes.proofs.start.start_bytes.Goals as goal

pub returns-then-branch-2-clause-answer : goal.returns-then-branch-2-clause-answer
returns-then-branch-2-clause-answer c =
    answer_of c.args.unicode (tree_of c.args.expr.now) (pattern_of (tree_of c.args.expr.now)).groups c.in_ok-sizes.sizes.items c.deref.result.now c.deref-2.result.now
    (Some (has c.add_start_set.new.set)) (has c.empty-set.result)
    refl c.in_ok-sizes.ensures c.deref.ensures.value c.deref-2.ensures.value
    (sym c.is_skippable.ensures ∙ c.if-is_skippable.false) (sym c.in_ok-has_keep_out.ensures ∙ c.if-branch.false) c.empty-set.ensures
    (sym (ap (λ b. if_known b (has c.add_start_set.new.set)) c.if-branch-2.true) ∙ c.in_ok-add_start_set.ensures.bytes)

pub returns-then-branch-2-clause-law : goal.returns-then-branch-2-clause-law
returns-then-branch-2-clause-law c =
    let answer : Some (has c.add_start_set.new.set) ≡ meant.start_bytes c.args.unicode (tree_of c.args.expr.now) =
    answer_of c.args.unicode (tree_of c.args.expr.now) (pattern_of (tree_of c.args.expr.now)).groups c.in_ok-sizes.sizes.items c.deref.result.now c.deref-2.result.now
    (Some (has c.add_start_set.new.set)) (has c.empty-set.result)
    refl c.in_ok-sizes.ensures c.deref.ensures.value c.deref-2.ensures.value
    (sym c.is_skippable.ensures ∙ c.if-is_skippable.false) (sym c.in_ok-has_keep_out.ensures ∙ c.if-branch.false) c.empty-set.ensures
    (sym (ap (λ b. if_known b (has c.add_start_set.new.set)) c.if-branch-2.true) ∙ c.in_ok-add_start_set.ensures.bytes) in
    start_bytes_hold c.args.unicode (tree_of c.args.expr.now) (has c.add_start_set.new.set) (sym answer)
