use Rattle.std.proofs.Common.{not, ◌≡◌, ◌==◌, ◌∙◌, ℕ, vec_len, length, ap, sym, rules}
use Rattle.fancy_regex_tree.specs.Tree.{tree_of, alt}
use Rattle.fancy_regex_linear.specs.Facts.{regular_by}
use Rattle.fancy_regex_linear.specs.Translation.{all_trees}
use Rattle.fancy_regex_linear.proofs.FactCodeLemmas.{alt_some, alt_none}
use Rattle.fancy_regex_linear.proofs.ShapeLemmas.{tree_alt}
use Rattle.fancy_regex_linear.proofs.facts.is_regular_by.Goals as goal

pub returns-then-not-is_empty : goal.returns-then-not-is_empty
returns-then-not-is_empty c =
    let e : tree_of c.args.expr.now ≡ alt (all_trees c.in-Alt.children.items) = ap tree_of c.in-Alt.is ∙ tree_alt c.in-Alt.children in
    let long : length c.in-Alt.children.items ≡ vec_len c.in-Alt.children = search rules in
    sym (ap (λ t. regular_by c.args.calls.now c.args.resets t c.args.parts c.args.keep_start) e
    ∙ alt_some c.args.calls.now c.args.resets c.in-Alt.children.items c.args.parts c.args.keep_start (ap (λ (n : ℕ). n == 0) long ∙ sym c.is_empty.ensures ∙ c.if-not-is_empty.true))

pub returns-else-not-is_empty : goal.returns-else-not-is_empty
returns-else-not-is_empty c =
    let e : tree_of c.args.expr.now ≡ alt (all_trees c.in-Alt.children.items) = ap tree_of c.in-Alt.is ∙ tree_alt c.in-Alt.children in
    let long : length c.in-Alt.children.items ≡ vec_len c.in-Alt.children = search rules in
    ap not c.if-not-is_empty.false
    ∙ sym (ap (λ t. regular_by c.args.calls.now c.args.resets t c.args.parts c.args.keep_start) e
    ∙ alt_none c.args.calls.now c.args.resets c.in-Alt.children.items c.args.parts c.args.keep_start (ap (λ (n : ℕ). n == 0) long ∙ sym c.is_empty.ensures ∙ c.if-not-is_empty.false))
