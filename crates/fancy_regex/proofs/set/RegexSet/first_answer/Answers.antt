use Rattle.std.proofs.Common.{◌≡◌, ◌∙◌, ◌≤◌, ℕ, length, sym, ap, subst, refl, arith}
use Rattle.fancy_regex_input.specs.SearchInputs.{FitsText}
use Rattle.fancy_regex_search.specs.SearchLimits.{effective_start}
use Rattle.fancy_regex.specs.SetAnswers.{last_tried, found_from, AreInLimits}
use Rattle.fancy_regex.proofs.SetSearchLemmas.{first_cut, answer_first, none_before, found_here, tried_here, none_later, all_later, answer_after}
use Rattle.fancy_regex.proofs.set.RegexSet.first_answer.Goals as goal

pub loop-position-init : goal.loop-position-init
loop-position-init g c =
    let text = g.S.Input.text c.haystack-haystack.result in
    let config = c.config-config.result in
    let p = c.effective_start-position.result in
    let fits : FitsText text config = rw (c.haystack-haystack.ensures, c.config-config.ensures) c.args.input.fits in
    let start : p ≡ effective_start config = c.effective_start-position.ensures ∙ ap effective_start (sym c.config-config.ensures) in
    record {
      cut = λ le. first_cut text config fits p start le;
      following = omega (arith, start);
      limits = λ q tried lt. let late : effective_start config ≤ q = tried.following in absurd (omega (arith, start, lt, late));
      none = none_before c.args.self.now.regexes.items text config c.as_bytes-text.ensures.utf8 fits p start;
      answer = answer_first c.args.self.now.regexes.items text config c.as_bytes-text.ensures.utf8 fits p start;
    }

pub returns-in-Some-Ok-clause-answer : goal.returns-in-Some-Ok-clause-answer
returns-in-Some-Ok-clause-answer g c =
    let text = g.S.Input.text c.haystack-haystack.result in
    let config = c.config-config.result in
    let items = c.args.self.now.regexes.items in
    let p = c.loop-position.position in
    let inv = c.loop-position.invariant in
    let fits : FitsText text config = rw (c.haystack-haystack.ensures, c.config-config.ensures) c.args.input.fits in
    let within : p ≤ last_tried config = omega (arith, c.loop-position-test.true, c.last_position-last.ensures) in
    let same : c.copied.result ≡ c.config-config.result = c.copied.ensures in
    let y = rw (same, c.in-Some-Ok.field-0-is) at c.in-Some-Ok.ensures.item in
    let is = found_here items text config c.as_bytes-text.ensures.utf8 fits p inv.cut within y.0 _ inv.answer y.3 in
    rw (← c.haystack-haystack.ensures, ← c.config-config.ensures, c.in-Some-Ok.field-0-is) (is.0, is.1, is.2, (y.0, y.2, is.3, y.4))

pub returns-in-Some-Err-clause-limits : goal.returns-in-Some-Err-clause-limits
returns-in-Some-Err-clause-limits g c =
    let text = g.S.Input.text c.haystack-haystack.result in
    let config = c.config-config.result in
    let items = c.args.self.now.regexes.items in
    let p = c.loop-position.position in
    let inv = c.loop-position.invariant in
    let fits : FitsText text config = rw (c.haystack-haystack.ensures, c.config-config.ensures) c.args.input.fits in
    let within : p ≤ last_tried config = omega (arith, c.loop-position-test.true, c.last_position-last.ensures) in
    let same : c.copied.result ≡ c.config-config.result = c.copied.ensures in
    let y = rw (same, c.in-Some-Err.field-0-is) at c.in-Some-Err.ensures.item in
    let within_limits = rw (same, c.in-Some-Err.field-0-is) at c.in-Some-Err.ensures.limits in
    rw (← c.haystack-haystack.ensures, ← c.config-config.ensures, c.in-Some-Err.field-0-is)
    (p, y.0, tried_here items text config c.as_bytes-text.ensures.utf8 fits p inv.cut within inv.following, inv.none, y.3, y.4, inv.limits, within_limits y.0 y.2)

pub loop-position-preserved : goal.loop-position-preserved
loop-position-preserved g c =
    let text = g.S.Input.text c.haystack-haystack.result in
    let config = c.config-config.result in
    let items = c.args.self.now.regexes.items in
    let p = c.loop-position.position in
    let inv = c.loop-position.invariant in
    let utf8 = c.as_bytes-text.ensures.utf8 in
    let fits : FitsText text config = rw (c.haystack-haystack.ensures, c.config-config.ensures) c.args.input.fits in
    let within : p ≤ last_tried config = omega (arith, c.loop-position-test.true, c.last_position-last.ensures) in
    let same : c.copied.result ≡ c.config-config.result = c.copied.ensures in
    let left = rw same at c.in-None.ensures.item in
    let here = left.0 in
    let passed = rw same at c.in-None.ensures.limits in
    let next = c.advance_position-position.ensures in
    record {
      cut = next.boundary;
      following = omega (arith, inv.following, next.after);
      limits = λ q tried lt. all_later items text config utf8 fits p inv.cut within (λ (x : ℕ). AreInLimits items text config x 0 (length items)) inv.limits passed q tried
          (omega (arith, lt, next.value));
      none = λ q tried lt. none_later items text config utf8 fits p inv.cut within inv.none here q tried (omega (arith, lt, next.value));
      answer = rw next.value (answer_after items text config utf8 fits p inv.cut within inv.answer here);
    }

pub returns-in-Some-Ok-clause-stays : goal.returns-in-Some-Ok-clause-stays
returns-in-Some-Ok-clause-stays g c =
    let same : c.copied.result ≡ c.config-config.result = c.copied.ensures in
    let passed = rw (same, c.in-Some-Ok.field-0-is) at c.in-Some-Ok.ensures.limits in
    rw (← c.haystack-haystack.ensures, ← c.config-config.ensures) (c.loop-position.invariant.limits, passed)

pub returns-clause-stays : goal.returns-clause-stays
returns-clause-stays g c =
    rw (← c.haystack-haystack.ensures, ← c.config-config.ensures)
    (λ q tried lt. c.loop-position.invariant.limits q tried (omega (arith, lt, c.loop-position-test.false, c.last_position-last.ensures)))
