use Rattle.std.proofs.Common.{◌∙◌, map, option_map, refl, string_bytes, Result, Ok, Err, IfErr}
use Rattle.fancy_regex_class.specs.Matchers.{IsNoClass, by_builder}
use Rattle.regex_syntax.specs.Verdict.{default_config, Reads}
use Rattle.fancy_regex_class.proofs.ClassLemmas.{read_has, is_then_read, refuses_syntax}
use Rattle.fancy_regex_class.proofs.matcher.members.Goals as goal

in_each : {T E : Type 0} {P : E → Type 0} (r : Result T E) → ((e : E) → P e) → IfErr r P
in_each (Ok x) h = tt
in_each (Err e) h = h e

pub returns-clause-refused : goal.returns-clause-refused
returns-clause-refused c = λ e.
    refuses_syntax c.args.written.now c.default.result c.in-Err.error.kind c.default.ensures c.in-Err.ensures.err (c.refusal_of_syntax.ensures.refused e)

pub returns-in-Some-clause-members : goal.returns-in-Some-clause-members
returns-in-Some-clause-members c = λ d scalar.
    let reads : Reads default_config c.args.written.now c.in-Ok.parsed.hir (map (option_map string_bytes) c.in-Ok.parsed.names.items) = rw c.default.ensures at c.in-Ok.ensures.ok in
    let found = rw c.in-Some.is at c.in_ok-class-in-Ok.ensures.members in
    found d scalar ∙ read_has c.args.written.now c.in-Ok.parsed.hir (map (option_map string_bytes) c.in-Ok.parsed.names.items) reads d scalar

pub returns-in-Some-clause-read : goal.returns-in-Some-clause-read
returns-in-Some-clause-read c =
    let reads : Reads default_config c.args.written.now c.in-Ok.parsed.hir (map (option_map string_bytes) c.in-Ok.parsed.names.items) = rw c.default.ensures at c.in-Ok.ensures.ok in
    is_then_read c.args.written.now c.in-Ok.parsed.hir (map (option_map string_bytes) c.in-Ok.parsed.names.items) reads

pub returns-in-Ok-clause-refused : goal.returns-in-Ok-clause-refused
returns-in-Ok-clause-refused c =
    let reads : Reads default_config c.args.written.now c.in-Ok.parsed.hir (map (option_map string_bytes) c.in-Ok.parsed.names.items) = rw c.default.ensures at c.in-Ok.ensures.ok in
    let none : IsNoClass c.in-Ok.parsed.hir = rw c.in-None.is at c.in_ok-class-in-Ok.ensures.none in
    in_each c.members_by_search.result
    (λ r is. by_builder c.args.written.now c.in-Ok.parsed.hir (map (option_map string_bytes) c.in-Ok.parsed.names.items) refl reads none)
