use Rattle.std.proofs.Common.{◌≡◌, ◌++◌, ◌∷◌, [], length, if◌then◌else◌, append_assoc, rules, ◌==◌, ap, sym, ◌∙◌}
use Rattle.fancy_regex_tree.specs.Tree.{tree_of}
use Rattle.fancy_regex_info.specs.declared.info.Info.{out-Info}
use Rattle.fancy_regex_linear.specs.Facts.{nothing_known, facts_by}
use Rattle.fancy_regex_linear.proofs.FactCodeLemmas.{parts_of, found_of, found_node, facts_is, no_children, parts_more, found_none, found_more}
use Rattle.fancy_regex_linear.proofs.facts.+add.Goals as goal

pub add_calls-returns-clause-facts : goal.add_calls-returns-clause-facts
add_calls-returns-clause-facts t c =
    let calls = c.args.calls.now in
    let i = c.args.info.now in
    let by = facts_by calls (tree_of (out-Info i).expr.now) ((out-Info i).min_size == 0) in
    c.facts_of_node.ensures ∙ ap by (c.in_ok-parts.ensures.facts ∙ ap (parts_of calls) c.deref.ensures.value) ∙ sym (facts_is calls i)

pub add_calls-returns-clause-found : goal.add_calls-returns-clause-found
add_calls-returns-clause-found t c =
    let calls = c.args.calls.now in
    let start = c.args.found.now.items in
    let opens = c.is_group-opens.result in
    let inner = found_of calls c.deref.result.now in
    let filled : c.add_row_calls.new.found.items ≡ start ++ (if opens then nothing_known ∷ [] else []) ++ inner =
    c.in_ok-parts.ensures.found ∙ ap (λ zs. zs ++ inner) c.in_ok-open.ensures in
    let place : c.len-place.result ≡ length start = search rules in
    c.close.ensures start inner place filled
    ∙ append_assoc start (if opens then c.call_of_body.result ∷ [] else []) inner
    ∙ ap (λ zs. start ++ zs)
    (found_node calls c.args.info.now opens c.call_of_body.result c.in_ok-parts.parts c.deref.result.now c.is_group-opens.ensures c.call_of_body.ensures
    c.in_ok-parts.ensures.facts c.deref.ensures.value)

pub add_row_calls-loop-child-init : goal.add_row_calls-loop-child-init
add_row_calls-loop-child-init t c = record {
  parts = c.no_parts-parts.ensures ∙ no_children c.args.calls.now;
  found = found_none c.args.calls.now c.args.found.now.items;
}

pub add_row_calls-loop-child-preserved : goal.add_row_calls-loop-child-preserved
add_row_calls-loop-child-preserved t c = record {
  parts =
      parts_more c.args.calls.now c.args.children.now c.loop-child.child-index c.child-item.result c.loop-child.parts c.with_part-parts.result c.in_ok-part.part
      c.loop-child-test.true c.child-item.is c.loop-child.invariant.parts c.in_ok-part.ensures.facts c.with_part-parts.ensures;
  found =
      found_more c.args.calls.now c.args.children.now c.loop-child.child-index c.child-item.result c.args.found.now.items c.loop-child.found.items c.add_calls.new.found.items
      c.loop-child-test.true c.child-item.is c.loop-child.invariant.found c.in_ok-part.ensures.found;
}
