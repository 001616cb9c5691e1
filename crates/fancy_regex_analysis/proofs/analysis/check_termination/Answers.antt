use Rattle.std.proofs.Common.{◌≡◌, ◌++◌, true, map, ap, subst, ◌∙◌, arith, vec_len}
use Rattle.fancy_regex_tree.specs.Tree.{tree_of}
use Rattle.fancy_regex_meaning.specs.Termination.{can_end}
use Rattle.fancy_regex_meaning.specs.Sizes.{calls_in}
use Rattle.fancy_regex_analysis.specs.TerminationFixpoint.{is_some_list}
use Rattle.fancy_regex_info.specs.Views.{body_tree}
use Rattle.fancy_regex_analysis.proofs.TerminationFixpointLemmas.{ends_known, end_clear, end_refused, some_call}
use Rattle.fancy_regex_analysis.proofs.analysis.check_termination.Goals as goal

pub returns-then-can_end_in-clause-complete : goal.returns-then-can_end_in-clause-complete
returns-then-can_end_in-clause-complete c =
    let t = tree_of c.args.expr.now in
    end_clear (is_some_list (calls_in t)) c.can_end_in.result (can_end (map body_tree c.args.groups.now) t)
    (ends_known c.args.groups.now c.in_ok-ends.ends.items c.deref.result.now t c.can_end_in.result c.deref.ensures.value c.in_ok-ends.ensures
    c.can_end_in.ensures)
    c.if-can_end_in.true

pub returns-clause-refused : goal.returns-clause-refused
returns-clause-refused c =
    let t = tree_of c.args.expr.now in
    let calls = c.add_calls.new.calls in
    let same = c.in_ok-add_calls.ensures ∙ ap (λ ks. ks ++ calls_in t) c.new-calls.ensures.items in
    end_refused (is_some_list (calls_in t)) c.can_end_in.result (can_end (map body_tree c.args.groups.now) t)
    (subst (λ ks. is_some_list ks ≡ true) same
    (some_call calls.items (vec_len calls) c.is_empty.result c.is_empty.ensures c.if-is_empty.false (omega (arith, calls.ok.0))))
    (ends_known c.args.groups.now c.in_ok-ends.ends.items c.deref.result.now t c.can_end_in.result c.deref.ensures.value c.in_ok-ends.ensures
    c.can_end_in.ensures)
    c.if-can_end_in.false
