use Rattle.std.proofs.Common.{ℕ, List, ap, string_bytes, Bor}
use Rattle.fancy_regex_ffi_lists.proofs.MixedLemmas.{each_refuses_next, each_built_next}
use Rattle.fancy_regex_ffi_lists.proofs.mixed.build_each.Goals as goal

pub returns-in-Err-clause-refused : goal.returns-in-Err-clause-refused
returns-in-Err-clause-refused c =
    each_refuses_next (λ (p : Bor (List ℕ)). p.now) c.args.options.now c.args.patterns.now c.loop-number.number _ _ c.loop-number.regexes.items
    (string_bytes c.in_ok-text.text) c.loop-number-test.true c.requires c.in_ok-text.ensures.ok c.loop-number.invariant c.in-Err.error _ c.builder.ensures c.in-Err.ensures.refused

pub loop-number-preserved : goal.loop-number-preserved
loop-number-preserved c =
    let told = c.in-Ok.ensures in
    each_built_next (λ (p : Bor (List ℕ)). p.now) c.args.options.now c.args.patterns.now c.loop-number.number _ _ c.loop-number.regexes.items
    (string_bytes c.in_ok-text.text) c.loop-number-test.true c.requires c.in_ok-text.ensures.ok c.loop-number.invariant c.in-Ok.regex c.push.new.self.items _ c.builder.ensures
    c.in_ok-push-in-Ok.ensures.items (ap string_bytes told.pattern) told.options told.cap told.accepted
