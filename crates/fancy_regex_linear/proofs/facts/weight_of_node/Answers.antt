use Rattle.std.proofs.Common.{◌≡◌, ◌∙◌, ◌*◌, ◌-◌, ℕ, min, vec_len, length, ap, sym, rules}
use Rattle.fancy_regex_tree.specs.Tree.{tree_of, alt}
use Rattle.fancy_regex_meaning.specs.Sizes.{unbounded}
use Rattle.fancy_regex_linear.specs.Facts.{weight_by}
use Rattle.fancy_regex_linear.specs.Translation.{all_trees}
use Rattle.fancy_regex_linear.proofs.FactCodeLemmas.{alt_weighs}
use Rattle.fancy_regex_linear.proofs.ShapeLemmas.{tree_alt}
use Rattle.fancy_regex_linear.proofs.facts.weight_of_node.Goals as goal

pub returns-in-Alt : goal.returns-in-Alt
returns-in-Alt c =
    let e : tree_of c.args.expr.now ≡ alt (all_trees c.in-Alt.children.items) = ap tree_of c.in-Alt.is ∙ tree_alt c.in-Alt.children in
    let long : length c.in-Alt.children.items ≡ vec_len c.in-Alt.children = search rules in
    alt_weighs c.args.calls.now c.in-Alt.children.items c.args.parts c.gap_weight.result c.saturating_add.result
    (c.gap_weight.ensures ∙ ap (λ (n : ℕ). min unbounded (3 * (n - 1))) (c.len.ensures ∙ sym long)) c.saturating_add.ensures
    ∙ sym (ap (λ t. weight_by c.args.calls.now t c.args.parts) e)
