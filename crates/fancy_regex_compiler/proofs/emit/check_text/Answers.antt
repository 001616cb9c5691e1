use Rattle.std.proofs.Common.{◌≡◌, length, true, sym, ◌∙◌, arith}
use Rattle.std.specs.Prelude.{◌==◌, vec_len}
use Rattle.std.proofs.lemmas.Bool.Decides.{nat_tests}
use Rattle.fancy_regex_compiler.proofs.InlinedContext.{err_weaker, text_has_room}
use Rattle.fancy_regex_compiler.proofs.emit.check_text.Goals as goal

pub returns-in-Some-clause-full : goal.returns-in-Some-clause-full
returns-in-Some-clause-full c =
    let context = c.args.context.now in
    let opened = c.args.emitter.now.opened.items in
    let m = c.args.scope.calls_left in
    let k = c.args.target in
    let n = c.in-Some.characters in
    let known = c.in-Some.ensures in
    let empty : (vec_len context.drafts.now == 0) ≡ true = sym c.is_empty.ensures ∙ c.if-not-is_empty.false in
    let none : length context.drafts.now.items ≡ 0 = grind (arith, nat_tests, empty, context.drafts.now.ok.0) in
    let fits = text_has_room context m opened k n none known.target known.left known.free in
    err_weaker c.check_room.result (λ e full too. (let lt = full too in omega (arith, lt, fits))) c.check_room.ensures.full
