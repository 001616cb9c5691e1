use Rattle.std.proofs.Common.{◌∙◌, ◌&&◌, ap, nat_le, map}
use Rattle.std.specs.List.{list_any}
use Rattle.fancy_regex_tree.specs.Traversal.{tree_at}
use Rattle.fancy_regex_tree.specs.ReferenceSummary.{is_call, is_reference_above, is_call_of_whole, refers_to}
use Rattle.fancy_regex_tree.proofs.Parsing.{list_any_map}
use Rattle.fancy_regex_tree.proofs.parse.summarize_references.Goals as goal

pub returns : goal.returns
returns c = record {
  backrefs = λ k. c.in_ok-backrefs.ensures k ∙ ap (λ ts. nat_le k c.args.total && list_any (refers_to k) ts) (ap (map tree_at) c.deref.ensures.value ∙ c.in_ok-nodes.ensures);
  subroutines = c.any_call.ensures ∙ list_any_map is_call tree_at _ ∙ ap (list_any is_call) (ap (map tree_at) c.deref-2.ensures.value ∙ c.in_ok-nodes.ensures);
  above = c.any_reference_above.ensures ∙ list_any_map (is_reference_above c.args.total) tree_at _ ∙ ap (list_any (is_reference_above c.args.total)) (ap (map tree_at) c.deref-3.ensures.value ∙ c.in_ok-nodes.ensures);
  whole = c.any_call_of_whole.ensures ∙ list_any_map is_call_of_whole tree_at _ ∙ ap (list_any is_call_of_whole) (ap (map tree_at) c.deref-4.ensures.value ∙ c.in_ok-nodes.ensures);
}
