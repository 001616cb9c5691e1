use Rattle.std.proofs.Common.{◌≡◌, ap, sym, subst, ◌∙◌}
use Rattle.fancy_regex_tree.specs.Tree.{tree_of}
use Rattle.fancy_regex_bytes.specs.ByteSets.{has}
use Rattle.fancy_regex_bytes.specs.RequiredBytes.{RequiredBytesHold}
use Rattle.fancy_regex_search.specs.Patterns.{tree_or_empty, tree_in}
use Rattle.fancy_regex.proofs.ByteSetProofs.{required_hold, found_only_with}
use Rattle.fancy_regex.proofs.options_builder.RegexOptionsBuilder.required_bytes.Goals as goal

pub returns-clause-required : goal.returns-clause-required
returns-clause-required c =
    let read = c.in_ok-tree.ensures.parsed in
    let o = c.args.self.now.options in
    let pattern = c.args.pattern.now in
    let same : tree_of c.in_ok-tree.tree.expr ≡ tree_in o pattern = read.2.tree ∙ sym (ap tree_or_empty read.1) in
    required_hold o pattern (has c.required_bytes.result) (subst (λ t. RequiredBytesHold t (has c.required_bytes.result)) same c.required_bytes.ensures.law)

pub returns-clause-members : goal.returns-clause-members
returns-clause-members c =
    let read = c.in_ok-tree.ensures.parsed in
    let o = c.args.self.now.options in
    let pattern = c.args.pattern.now in
    let same : tree_of c.in_ok-tree.tree.expr ≡ tree_in o pattern = read.2.tree ∙ sym (ap tree_or_empty read.1) in
    found_only_with o pattern (has c.required_bytes.result) (subst (λ t. RequiredBytesHold t (has c.required_bytes.result)) same c.required_bytes.ensures.law)
