use Rattle.std.proofs.Common.{map, filter_map, ap, sym, ◌∙◌, ◌++◌}
use Rattle.std.specs.List.{list_any}
use Rattle.fancy_regex_tree.specs.Tree.{tree_of}
use Rattle.fancy_regex_meaning.specs.Sizes.{size_with}
use Rattle.fancy_regex_info.specs.Views.{size_at}
use Rattle.fancy_regex_analysis.specs.UnsupportedParts.{is_unsupported, stops}
use Rattle.fancy_regex_analysis.specs.EmittedParts.{some_emitted, part_at, call_of}
use Rattle.fancy_regex_analysis.proofs.PartErrorLemmas.{hands_on}
use Rattle.fancy_regex_analysis.proofs.PartListLemmas.{passes, some_of_parts, calls_of_parts}
use Rattle.fancy_regex_analysis.proofs.unsupported.check_body.Goals as goal

pub returns-in_err-check_parts-clause-refused : goal.returns-in_err-check_parts-clause-refused
returns-in_err-check_parts-clause-refused c =
    let S = size_with (size_at c.args.sizes.now) in
    let i = c.args.inside in
    let t = tree_of c.args.expr.now in
    let e = c.in_err-check_parts.field-0.0 in
    let all = ap (map part_at) c.deref.ensures.value ∙ c.in_ok-parts.ensures in
    hands_on c.from_residual-in_err-check_parts.result e (λ f. list_any (passes (stops S f)) (map part_at c.deref.result.now)) (λ f. some_emitted (stops S f) i t)
    c.from_residual-in_err-check_parts.ensures.1
    (λ h. some_of_parts (stops S e) i t ∙ sym (ap (list_any (passes (stops S e))) all) ∙ h) c.in_err-check_parts.ensures.refused

pub returns-clause-complete : goal.returns-clause-complete
returns-clause-complete c =
    let S = size_with (size_at c.args.sizes.now) in
    let all = ap (map part_at) c.deref.ensures.value ∙ c.in_ok-parts.ensures in
    some_of_parts (is_unsupported S) c.args.inside (tree_of c.args.expr.now)
    ∙ sym (ap (list_any (passes (is_unsupported S))) all) ∙ c.in_ok-check_parts.ensures.complete

pub returns-clause-calls : goal.returns-clause-calls
returns-clause-calls c =
    let all = ap (map part_at) c.deref-2.ensures.value ∙ c.in_ok-parts.ensures in
    c.in_ok-add_emitted_calls.ensures
    ∙ ap (λ cs. c.args.calls.now.items ++ cs) (ap (filter_map call_of) all ∙ sym (calls_of_parts c.args.inside (tree_of c.args.expr.now)))
