use Rattle.std.proofs.Common.{ap, sym, ◌∙◌}
use Rattle.fancy_regex_tree.specs.Tree.{tree_of}
use Rattle.fancy_regex_search.specs.Patterns.{tree_or_empty}
use Rattle.fancy_regex_reprint.specs.Reprinted.{reprinted}
use Rattle.fancy_regex.proofs.Reprinting.{Laws, reprint_keeps_matches}
use Rattle.fancy_regex.proofs.options_builder.RegexOptionsBuilder.reprint.Goals as goal

pub returns-clause-same : goal.returns-clause-same
returns-clause-same c =
    let read = c.in_ok-tree.ensures.parsed in
    let laws : Laws =
    record {
      groups = c.normal_form_laws.ensures.groups;
      counted = c.laws_of_groups.ensures.counted;
      matches = c.normal_form_laws.ensures.matches;
      items = c.normal_form_laws.ensures.items;
    } in
    reprint_keeps_matches laws c.args.self.now.options c.args.pattern.now read.0 (tree_of c.in_ok-tree.tree.expr) c.in_ok-reprint.field-0 read.1 read.2.tree
    (c.in_ok-reprint.ensures ∙ ap reprinted (read.2.tree ∙ sym (ap tree_or_empty read.1))) c.printed_tree_parses.ensures.parses
