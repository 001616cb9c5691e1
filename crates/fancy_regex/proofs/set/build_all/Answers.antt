use Rattle.std.proofs.Common.{ℕ, List, ap, string_bytes, Bor}
use Rattle.fancy_regex.specs.SetMembers.{IsBuiltOf}
use Rattle.fancy_regex.proofs.SetBuildLemmas.{refuses_next, built_next}
use Rattle.fancy_regex.proofs.set.build_all.Goals as goal

pub returns-in-Err-clause-refused : goal.returns-in-Err-clause-refused
returns-in-Err-clause-refused c =
    refuses_next c.args.options.now.options (λ (p : Bor (List ℕ)). p.now) c.args.patterns.now c.loop-pattern.pattern-index _ c.loop-pattern.regexes.items
    (string_bytes c.in_ok-text.text) c.loop-pattern-test.true c.in_ok-text.ensures.ok c.loop-pattern.invariant c.in-Err.error c.in-Err.ensures.refused

pub loop-pattern-preserved : goal.loop-pattern-preserved
loop-pattern-preserved c =
    let told = c.in-Ok.ensures in
    let built : IsBuiltOf c.args.options.now.options (string_bytes c.in_ok-text.text) c.in-Ok.regex =
    record { pattern_is = ap string_bytes told.pattern; options_are = told.options; cap = told.cap; accepted = told.accepted } in
    built_next c.args.options.now.options (λ (p : Bor (List ℕ)). p.now) c.args.patterns.now c.loop-pattern.pattern-index _ c.loop-pattern.regexes.items
    (string_bytes c.in_ok-text.text) c.loop-pattern-test.true c.in_ok-text.ensures.ok c.loop-pattern.invariant c.in-Ok.regex c.push.new.self.items
    c.in_ok-push-in-Ok.ensures.items built
