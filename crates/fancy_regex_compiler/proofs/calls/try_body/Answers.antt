use Rattle.std.proofs.Common.{refl}
use Rattle.std.proofs.lemmas.Option.{slice_get_read}
use Rattle.fancy_regex_compiler.proofs.MetLemmas.{info_there, met_ok, met_err}
use Rattle.fancy_regex_compiler.proofs.calls.try_body.Goals as goal

pub returns-in_err-emit_called-clause-needs : goal.returns-in_err-emit_called-clause-needs
returns-in_err-emit_called-clause-needs c =
    let context = c.args.context.now in
    let groups = context.groups.now.items in
    let need = c.args.need in
    let x = c.index.result.now in
    let at = info_there groups need.group x c.requires.group (slice_get_read groups _ need.group x refl c.requires.group c.index.ensures) in
    met_err context need x.now at c.args.emitter.now.opened.items c.requires.opened c.args.emitter.now _ c.emit_called.new.emitter c.emit_called.new.emitter c.in_ok-scope_of.field-0 0 c.in_ok-scope_of.ensures.scope refl refl refl refl
    c.from_residual-in_err-emit_called.result c.in_err-emit_called.field-0.0 c.from_residual-in_err-emit_called.ensures.1 c.in_err-emit_called.ensures

pub returns-clause-needs : goal.returns-clause-needs
returns-clause-needs c =
    let context = c.args.context.now in
    let groups = context.groups.now.items in
    let need = c.args.need in
    let x = c.index.result.now in
    let at = info_there groups need.group x c.requires.group (slice_get_read groups _ need.group x refl c.requires.group c.index.ensures) in
    let h = c.in_ok-emit_called.ensures in
    met_ok context need x.now at c.args.emitter.now.opened.items c.requires.opened c.args.emitter.now _ c.emit_called.new.emitter _ c.in_ok-scope_of.field-0 0 c.in_ok-scope_of.ensures.scope refl refl refl refl
    c.in_ok-emit_called.field-0 tt h
