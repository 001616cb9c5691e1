use Rattle.std.proofs.Common.{rules, ap, ◌∙◌, map}
use Rattle.std.proofs.lemmas.Fn.{filter_same}
use Rattle.fancy_regex_tree.specs.Tree.{tree_of, concat}
use Rattle.fancy_regex_tree.specs.TreeBuilders.{joined}
use Rattle.fancy_regex_tree.proofs.PieceLists.{without_empty-map}
use Rattle.fancy_regex_tree.proofs.tree_builders.branch_of.Goals as goal

pub returns : goal.returns
returns c =
    let kept = filter_same _ _ _ (λ x b f' k. search rules) _ _ c.retain.ensures.filtered in
    c.concat.ensures ∙ ap (λ es. joined concat es) (ap (λ es. map tree_of es) kept ∙ without_empty-map c.args.pieces.items)
