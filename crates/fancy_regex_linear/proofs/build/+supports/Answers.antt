use Rattle.std.proofs.Common.{◌≡◌, ◌==◌, ◌∙◌, ℕ, vec_len, length, ap, sym, rules}
use Rattle.fancy_regex_tree.specs.Tree.{tree_of, alt}
use Rattle.fancy_regex_linear.specs.Translation.{all_trees}
use Rattle.fancy_regex_linear.proofs.BuildLemmas.{plain_step, plain_whole, some_trees}
use Rattle.fancy_regex_linear.proofs.ShapeLemmas.{tree_alt}
use Rattle.fancy_regex_linear.proofs.build.+supports.Goals as goal

pub is_supported-returns-then-not-is_empty : goal.is_supported-returns-then-not-is_empty
is_supported-returns-then-not-is_empty t c = λ yes.
    let e : tree_of c.args.expr.now ≡ alt (all_trees c.deref-then-not-is_empty.result.now) =
    ap tree_of c.in-Alt.is ∙ tree_alt c.in-Alt.children ∙ ap (λ es. alt (all_trees es)) (sym c.deref-then-not-is_empty.ensures.value) in
    let long : length c.deref-then-not-is_empty.result.now ≡ vec_len c.in-Alt.children = ap length c.deref-then-not-is_empty.ensures.value ∙ (search rules) in
    rw e (
      some_trees c.deref-then-not-is_empty.result.now
          (ap (λ (n : ℕ). n == 0) long ∙ sym c.is_empty.ensures ∙ c.if-not-is_empty.true),
      c.are_supported-then-not-is_empty.ensures yes,
    )

pub are_supported-loop-i-preserved : goal.are_supported-loop-i-preserved
are_supported-loop-i-preserved t c =
    plain_step c.args.children.now c.loop-i.i c.index-children-i.result c.loop-i-test.true c.index-children-i.is c.loop-i.invariant
    (c.is_supported.ensures c.if-not-is_supported.false)

pub are_supported-returns : goal.are_supported-returns
are_supported-returns t c = λ yes. plain_whole c.args.children.now c.loop-i.i c.loop-i-test.false c.loop-i.invariant
