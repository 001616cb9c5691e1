use Rattle.std.proofs.Common.{◌≡◌, ◌∙◌, length, ap, sym, rules}
use Rattle.std.proofs.lemmas.List.{length-map}
use Rattle.fancy_regex_tree.specs.Tree.{tree_of}
use Rattle.fancy_regex_info.specs.Views.{body_tree}
use Rattle.fancy_regex_meaning.specs.Groups.{group_count}
use Rattle.fancy_regex_meaning.proofs.GroupProofs.{groups_are_counted}
use Rattle.fancy_regex_linear.proofs.build.groups_in.Goals as goal

pub returns : goal.returns
returns c =
    let count : length c.in_ok-groups.groups.items ≡ group_count (tree_of c.args.expr.now) =
    sym (length-map c.in_ok-groups.groups.items body_tree) ∙ ap length c.in_ok-groups.ensures ∙ groups_are_counted (tree_of c.args.expr.now) in
    search rules
