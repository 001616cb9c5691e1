use Rattle.std.proofs.Common.{◌+◌, List, false, ap, subst, arith}
use Rattle.fancy_regex_tree.specs.Tree.{tree_of}
use Rattle.fancy_regex_tree.specs.declared.expr.LookAround.{LookAround}
use Rattle.fancy_regex_desugar.specs.Unfolded.{look}
use Rattle.fancy_regex_info.specs.Infos.{InfoTree, info_of}
use Rattle.fancy_regex_compiler.specs.Refusals.{TreeContext, IsExpandedBody, looks_behind}
use Rattle.fancy_regex_compiler.specs.Tasks.{info_work}
use Rattle.fancy_regex_compiler.specs.Writing.{part}
use Rattle.fancy_regex_compiler.specs.declared.emitter.CompileContext.{CompileContext}
use Rattle.fancy_regex_compiler.proofs.OutcomeLemmas.{begins_as}
use Rattle.fancy_regex_compiler.proofs.emit.emit_look_around.Goals as goal

pub returns-in-LookAhead : goal.returns-in-LookAhead
returns-in-LookAhead c =
    let t = tree_of c.args.body.now in
    let at = λ (context : CompileContext). part context c.args.scope c.args.emitter.now.opened.items c.args.child.now in
    let S = λ (how : LookAround) (tree_context : TreeContext). IsExpandedBody tree_context false c.args.scope.may_be_absent (looks_behind how) t (info_of c.args.child.now) in
    begins_as (λ (context : CompileContext). look t c.args.how (at context)) (S c.args.how) (λ (groups : List InfoTree). 3 + info_work groups c.args.scope c.args.child.now)
    c.emit_positive_look_ahead.ensures
    (λ context. ap (λ how. look t how (at context)) c.in-LookAhead.is)
    (λ tree_context h. subst (λ how. S how tree_context) c.in-LookAhead.is h)
    (λ groups. omega arith)

pub returns-in-LookAheadNeg : goal.returns-in-LookAheadNeg
returns-in-LookAheadNeg c =
    let t = tree_of c.args.body.now in
    let at = λ (context : CompileContext). part context c.args.scope c.args.emitter.now.opened.items c.args.child.now in
    let S = λ (how : LookAround) (tree_context : TreeContext). IsExpandedBody tree_context false c.args.scope.may_be_absent (looks_behind how) t (info_of c.args.child.now) in
    begins_as (λ (context : CompileContext). look t c.args.how (at context)) (S c.args.how) (λ (groups : List InfoTree). 3 + info_work groups c.args.scope c.args.child.now)
    c.emit_negative_look_ahead.ensures
    (λ context. ap (λ how. look t how (at context)) c.in-LookAheadNeg.is)
    (λ tree_context h. subst (λ how. S how tree_context) c.in-LookAheadNeg.is h)
    (λ groups. omega arith)

pub returns-in-LookBehind : goal.returns-in-LookBehind
returns-in-LookBehind c =
    let t = tree_of c.args.body.now in
    let at = λ (context : CompileContext). part context c.args.scope c.args.emitter.now.opened.items c.args.child.now in
    let S = λ (how : LookAround) (tree_context : TreeContext). IsExpandedBody tree_context false c.args.scope.may_be_absent (looks_behind how) t (info_of c.args.child.now) in
    begins_as (λ (context : CompileContext). look t c.args.how (at context)) (S c.args.how) (λ (groups : List InfoTree). 3 + info_work groups c.args.scope c.args.child.now)
    c.emit_positive_look_behind.ensures
    (λ context. ap (λ how. look t how (at context)) c.in-LookBehind.is)
    (λ tree_context h. (subst (λ how. S how tree_context) c.in-LookBehind.is h).part)
    (λ groups. omega arith)

pub returns-in-LookBehindNeg : goal.returns-in-LookBehindNeg
returns-in-LookBehindNeg c =
    let t = tree_of c.args.body.now in
    let at = λ (context : CompileContext). part context c.args.scope c.args.emitter.now.opened.items c.args.child.now in
    let S = λ (how : LookAround) (tree_context : TreeContext). IsExpandedBody tree_context false c.args.scope.may_be_absent (looks_behind how) t (info_of c.args.child.now) in
    begins_as (λ (context : CompileContext). look t c.args.how (at context)) (S c.args.how) (λ (groups : List InfoTree). 3 + info_work groups c.args.scope c.args.child.now)
    c.emit_negative_look_behind.ensures
    (λ context. ap (λ how. look t how (at context)) c.in-LookBehindNeg.is)
    (λ tree_context h. (subst (λ how. S how tree_context) c.in-LookBehindNeg.is h).part)
    (λ groups. omega arith)
