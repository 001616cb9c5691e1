use Rattle.std.proofs.Common.{map}
use Rattle.std.specs.List.{list_any}
use Rattle.fancy_regex_meaning.specs.Sizes.{size_with}
use Rattle.fancy_regex_info.specs.Views.{size_at}
use Rattle.fancy_regex_analysis.specs.UnsupportedParts.{is_unsupported, stops}
use Rattle.fancy_regex_analysis.specs.EmittedParts.{part_at}
use Rattle.fancy_regex_analysis.proofs.NodeListLemmas.{node_passes, node_fails, nodes_fail}
use Rattle.fancy_regex_analysis.proofs.PartErrorLemmas.{hands_on}
use Rattle.fancy_regex_analysis.proofs.PartListLemmas.{passes}
use Rattle.fancy_regex_analysis.proofs.unsupported.check_parts.Goals as goal

pub returns-in_err-check_node-clause-refused : goal.returns-in_err-check_node-clause-refused
returns-in_err-check_node-clause-refused c =
    let S = size_with (size_at c.args.sizes.now) in
    let e = c.in_err-check_node.field-0.0 in
    let parts = c.args.parts.now in
    let part = part_at c.part-item.result in
    hands_on c.from_residual.result e (λ f. stops S f part.0 part.1) (λ f. list_any (passes (stops S f)) (map part_at parts)) c.from_residual.ensures.1
    (node_passes part_at (passes (stops S e)) parts c.loop-part.part-index c.part-item.result c.loop-part-test.true c.part-item.is)
    c.in_err-check_node.ensures.refused

pub loop-part-preserved : goal.loop-part-preserved
loop-part-preserved c =
    let S = size_with (size_at c.args.sizes.now) in
    node_fails part_at (passes (is_unsupported S)) c.args.parts.now c.loop-part.part-index c.part-item.result c.loop-part-test.true c.part-item.is
    c.loop-part.invariant c.in_ok-check_node.ensures.complete

pub returns-clause-complete : goal.returns-clause-complete
returns-clause-complete c =
    let S = size_with (size_at c.args.sizes.now) in
    nodes_fail part_at (passes (is_unsupported S)) c.args.parts.now c.loop-part.part-index c.loop-part-test.false c.loop-part.invariant
