use Rattle.std.proofs.Common.{rules, ◌≡◌, ℕ, ◌*◌, length, sym, ap, ◌∙◌}
use Rattle.std.proofs.lemmas.List.{length-map}
use Rattle.fancy_regex_compiler.specs.Known.{most_calls_in}
use Rattle.fancy_regex_compiler.specs.Writing.{info_at, infos_of}
use Rattle.fancy_regex_compiler.specs.declared.emitter.Scope.{Scope}
use Rattle.fancy_regex_compiler.proofs.calls.scope_of.Goals as goal

pub returns-clause-scope : goal.returns-clause-scope
returns-clause-scope c =
    let context = c.args.context.now in
    let groups = context.groups.now.items in
    let long : c.len.result ≡ length groups = search rules in
    let calls : c.in_ok-max_open_calls.field-0 ≡ most_calls_in (infos_of context) =
    c.in_ok-max_open_calls.ensures.value ∙ ap (λ n. 19 * n) (long ∙ sym (length-map groups info_at)) in
    ap (λ (n : ℕ). let s : Scope = record { calls_left = n; may_keep = c.args.need.may_keep; may_be_absent = c.args.need.may_be_absent } in s) calls
