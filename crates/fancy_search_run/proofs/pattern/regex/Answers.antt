use Rattle.std.proofs.Common.{ℕ, List, subst}
use Rattle.std.specs.Prelude.{IfOk, IfErr, string_bytes}
use Rattle.fancy_regex.specs.Refusals.{Accepts, Refuses}
use Rattle.fancy_regex.specs.RegexOptions.{RegexOptions}
use Rattle.fancy_search_run.specs.Requests.{regex_options}
use Rattle.fancy_search_run.proofs.pattern.regex.Goals as goal

pub returns-clause-accepted : goal.returns-clause-accepted
returns-clause-accepted c =
    let read = subst (λ (o : RegexOptions). IfOk c.build.result (λ _. Accepts o (string_bytes c.in_ok-pattern.pattern))) c.builder.ensures c.build.ensures.accepted in
    subst (λ (xs : List ℕ). IfOk c.build.result (λ _. Accepts (regex_options c.args.options) xs)) c.in_ok-pattern.ensures.ok read

pub returns-clause-refused : goal.returns-clause-refused
returns-clause-refused c =
    let read = subst (λ (o : RegexOptions). IfErr c.build.result (Refuses o (string_bytes c.in_ok-pattern.pattern))) c.builder.ensures c.build.ensures.refused in
    subst (λ (xs : List ℕ). IfErr c.build.result (Refuses (regex_options c.args.options) xs)) c.in_ok-pattern.ensures.ok read
