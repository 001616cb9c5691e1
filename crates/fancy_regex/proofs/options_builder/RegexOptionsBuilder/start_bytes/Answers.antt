use Rattle.std.proofs.Common.{ap, sym, ◌∙◌}
use Rattle.fancy_regex_tree.specs.Tree.{tree_of}
use Rattle.fancy_regex_search.specs.Patterns.{tree_or_empty}
use Rattle.fancy_regex.proofs.ByteSetProofs.{starts_hold_if, only_in_if}
use Rattle.fancy_regex.proofs.options_builder.RegexOptionsBuilder.start_bytes.Goals as goal

pub returns-in-Ok-clause-starts : goal.returns-in-Ok-clause-starts
returns-in-Ok-clause-starts c =
    let read = c.in_ok-tree.ensures.parsed in
    starts_hold_if c.args.self.now.options c.args.pattern.now (tree_of c.in_ok-tree.tree.expr) c.in-Ok.set (read.2.tree ∙ sym (ap tree_or_empty read.1)) c.in-Ok.ensures.law

pub returns-in-Ok-clause-members : goal.returns-in-Ok-clause-members
returns-in-Ok-clause-members c =
    let read = c.in_ok-tree.ensures.parsed in
    only_in_if c.args.self.now.options c.args.pattern.now (tree_of c.in_ok-tree.tree.expr) c.in-Ok.set (read.2.tree ∙ sym (ap tree_or_empty read.1)) c.in-Ok.ensures.law
