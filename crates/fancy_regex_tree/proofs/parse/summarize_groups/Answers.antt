use Rattle.std.proofs.Common.{◌≡◌, ◌∙◌, ap, sym, length, map, chars}
use Rattle.std.specs.List.{list_any, filter_map}
use Rattle.std.proofs.lemmas.List.{length-map}
use Rattle.fancy_regex_tree.specs.Tree.{tree_of}
use Rattle.fancy_regex_tree.specs.Traversal.{tree_at, nodes}
use Rattle.fancy_regex_tree.specs.Numbering.{name_view, counted, openings, opening_of, numbers_of}
use Rattle.fancy_regex_tree.specs.ReferenceSummary.{is_named, is_numbered}
use Rattle.fancy_regex_tree.specs.ParseResult.{carries}
use Rattle.fancy_regex_tree.proofs.GroupNames.{counted_is}
use Rattle.fancy_regex_tree.proofs.Parsing.{list_any_map, some_named}
use Rattle.fancy_regex_tree.proofs.parse.summarize_groups.Goals as goal
use Rattle.fancy_regex_tree.proofs.parse.summarize_groups.Goals.{then-ignore_numbered, else-ignore_numbered}

pub returns : goal.returns
returns c =
    let ignored = c.if-ignore_numbered.ignored in
    let all : map name_view c.in_ok-names.names.items ≡ counted ignored (openings (tree_of c.args.expr.now)) =
    c.in_ok-names.ensures
    ∙ counted_is ignored (map tree_at c.deref-2.result.now)
    ∙ ap (λ ts. counted ignored (filter_map opening_of ts)) (ap (map tree_at) c.deref-2.ensures.value ∙ c.in_ok-nodes.ensures) in
    record {
      ignored =
          elim c.if-ignore_numbered.branch [
            | then-ignore_numbered w ↦
                rw w.if-ignore_numbered.true
                (w.ignored-is ∙ w.any_named-ignored.ensures ∙ list_any_map is_named tree_at _ ∙ ap (list_any is_named) (ap (map tree_at) w.deref.ensures.value ∙ c.in_ok-nodes.ensures)
                ∙ some_named (nodes (tree_of c.args.expr.now)))
            | else-ignore_numbered w ↦ rw w.if-ignore_numbered.false (w.ignored-is ∙ w.if-ignore_numbered.false)
          ];
      named = λ q u. c.in_ok-named_groups.ensures.value q u ∙ ap (numbers_of (chars q) 0) (ap (map name_view) c.deref-3.ensures.value ∙ all);
      keys = λ q u. c.in_ok-named_groups.ensures.keys q u ∙ ap (list_any (carries (chars q))) (ap (map name_view) c.deref-3.ensures.value ∙ all);
      total = c.len.ensures ∙ sym c.deref-3.ensures.len ∙ ap length c.deref-3.ensures.value ∙ sym (length-map c.in_ok-names.names.items name_view) ∙ ap length all;
      numbered = c.any_numbered.ensures ∙ list_any_map is_numbered tree_at _ ∙ ap (list_any is_numbered) (ap (map tree_at) c.deref-4.ensures.value ∙ c.in_ok-nodes.ensures);
    }
