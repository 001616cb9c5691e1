use Rattle.std.proofs.Common.{◌≡◌, ℕ, ◌-◌, ◌<◌, ◌∷◌, ◌++◌, [], length, false, Some, refl, sym, ap, ◌∙◌, arith}
use Rattle.std.proofs.lemmas.List.{length-map}
use Rattle.std.proofs.lemmas.Option.{slice_get_read}
use Rattle.fancy_regex_program.specs.Ops.{place_of}
use Rattle.fancy_regex_compiler.specs.Kept.{pattern_at}
use Rattle.fancy_regex_compiler.specs.Tasks.{node_pattern}
use Rattle.fancy_regex_compiler.specs.Writing.{draft_of, layout_of, info_at, infos_of}
use Rattle.fancy_regex_compiler.specs.declared.calls.Body.{Body}
use Rattle.fancy_regex_compiler.proofs.AddedBodies.{body_added, added_met}
use Rattle.fancy_regex_compiler.proofs.MetLemmas.{info_there, body_pattern, met_ok, met_err}
use Rattle.fancy_regex_compiler.proofs.NeedLemmas.{place_of_draft}
use Rattle.fancy_regex_compiler.proofs.calls.add_body.Goals as goal

pub returns-in_err-end-clause-needs : goal.returns-in_err-end-clause-needs
returns-in_err-end-clause-needs c =
    let context = c.args.context.now in
    let groups = context.groups.now.items in
    let need = c.args.need in
    let x = c.index.result.now in
    let at = info_there groups need.group x c.requires.group (slice_get_read groups _ need.group x refl c.requires.group c.index.ensures) in
    met_err context need x.now at c.args.emitter.now.opened.items c.requires.opened c.args.emitter.now c.args.emitter.now c.emit_called.new.emitter c.emit_called.new.emitter c.in_ok-scope.scope _ c.in_ok-scope.ensures.scope refl refl refl refl
    c.from_residual-in_err-end.result c.in_err-end.field-0.0 c.from_residual-in_err-end.ensures.1 c.in_err-end.ensures

pub returns-clause-needs : goal.returns-clause-needs
returns-clause-needs c =
    let context = c.args.context.now in
    let groups = context.groups.now.items in
    let need = c.args.need in
    let x = c.index.result.now in
    let at = info_there groups need.group x c.requires.group (slice_get_read groups _ need.group x refl c.requires.group c.index.ensures) in
    met_ok context need x.now at c.args.emitter.now.opened.items c.requires.opened c.args.emitter.now c.args.emitter.now c.emit_called.new.emitter _ c.in_ok-scope.scope _ c.in_ok-scope.ensures.scope refl refl refl refl
    c.in_ok-end.end tt c.in_ok-end.ensures

pub returns-clause-bodies : goal.returns-clause-bodies
returns-clause-bodies c = λ main from had.
    let context = c.args.context.now in
    let groups = context.groups.now.items in
    let need = c.args.need in
    let x = c.index.result.now in
    let opened = c.args.emitter.now.opened.items in
    let old = c.args.bodies.now in
    let d0 = draft_of c.args.emitter.now.body in
    let at = info_there groups need.group x c.requires.group (slice_get_read groups _ need.group x refl c.requires.group c.index.ensures) in
    let pattern = node_pattern context x.now false c.in_ok-scope.scope opened in
    let is : pattern_at (infos_of context) need.group ≡ pattern =
    sym (ap (λ s. node_pattern context x.now false s opened) c.in_ok-scope.ensures.scope ∙ body_pattern context need x.now at opened c.requires.opened) in
    let low : need.group < length (infos_of context) = let long = length-map groups info_at in omega (arith, long, c.requires.group) in
    let place = place_of c.in_ok-clone.field-0.value in
    let draft : layout_of context need.group ≡ Some place =
    place_of_draft context need.group (Some c.args.draft.now) c.requires.draft ∙ ap (λ v. Some (place_of v)) (sym c.in_ok-clone.ensures.cases) in
    let body : ℕ → Body = λ start. record { group = need.group; start = start; first = old.end; own = c.in_ok-end.end - old.end } in
    body_added context main from d0 (draft_of c.emit_called.new.emitter.body) (draft_of c.flush_and_push.new.self) old _ need.group c.in_ok-end.end place pattern
    had is low draft c.in_ok-end.ensures.wrote.draft c.in_ok-end.ensures.wrote.slots c.in_ok-flush_and_push.ensures.draft c.requires.fresh
    (c.in_ok-push.ensures.items ∙ ap (λ s. old.list.items ++ body s ∷ []) c.len-start.ensures) refl refl

pub returns-clause-met : goal.returns-clause-met
returns-clause-met c =
    let old = c.args.bodies.now in
    let body : ℕ → Body = λ start. record { group = c.args.need.group; start = start; first = old.end; own = c.in_ok-end.end - old.end } in
    let low : c.args.need.group < length old.written.items = omega (arith, c.requires.group, c.requires.marks) in
    added_met c.args.context.now old _ c.args.need (body c.len-start.result) refl low c.in_ok-push.ensures.items refl
