use Rattle.std.proofs.Common.{◌≡◌, ◌∙◌, ◌<◌, ◌+◌, ℕ, length, None, ap, sym, arith, chars}
use Rattle.fancy_regex_meta.specs.MetaMatches.{meta_pattern}
use Rattle.fancy_regex_meta.specs.GroupNames.{name_at}
use Rattle.fancy_regex_search.specs.GroupLookup.{meta_group_names}
use Rattle.fancy_regex_search.proofs.NameSearchLemmas.{no_name, name_passed, some_name, name_found}
use Rattle.fancy_regex_search.proofs.template_check.has_names.Goals as goal

pub loop-name-preserved : goal.loop-name-preserved
loop-name-preserved c =
    let inv = c.loop-name.invariant in
    let s = c.args.regex.now.meta in
    let k = c.loop-name.names.next in
    let count : ℕ = length (meta_pattern s).groups in
    let step = rw inv.0 at c.in-Some.ensures.steps in
    let inside : k < count = step.0 in
    let next : c.next.new.self.next ≡ k + 1 = step.1 in
    let none : name_at (meta_group_names s) k ≡ None = no_name (λ name. chars name.now) c.in-Some.name _ (sym c.is_some.ensures ∙ c.if-is_some.false) step.3 in (
      ap (λ r. r.now.meta) c.in-Some.ensures.steps.2 ∙ inv.0,
      omega (arith, inside, next),
      rw next (name_passed (meta_group_names s) count k inside none ∙ inv.2),
    )

pub returns-then-is_some : goal.returns-then-is_some
returns-then-is_some c =
    let inv = c.loop-name.invariant in
    let s = c.args.regex.now.meta in
    let k = c.loop-name.names.next in
    let count : ℕ = length (meta_pattern s).groups in
    let step = rw inv.0 at c.in-Some.ensures.steps in
    let some = some_name (λ name. chars name.now) c.in-Some.name _ (sym c.is_some.ensures ∙ c.if-is_some.true) step.3 in
    sym (name_found (meta_group_names s) count k step.0 some) ∙ inv.2
