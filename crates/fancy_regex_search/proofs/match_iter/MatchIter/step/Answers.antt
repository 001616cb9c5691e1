use Rattle.std.proofs.Common.{◌<◌, ◌≤◌, max, refl, arith}
use Rattle.fancy_regex_search.proofs.StepLemmas.{over_step, past_step, failed_step}
use Rattle.fancy_regex_search.proofs.match_iter.MatchIter.step.Goals as goal

pub returns-then-self-clause-step : goal.returns-then-self-clause-step
returns-then-self-clause-step g c =
    let self = c.args.self.now in
    over_step self.regex.now.meta (g.S.Input.text self.input.haystack) self.input.config self.state self.wanted c.if-self.true

pub returns-then-effective_start-range_end-clause-step : goal.returns-then-effective_start-range_end-clause-step
returns-then-effective_start-range_end-clause-step g c =
    let self = c.args.self.now in
    let a = self.input.config in
    let past : a.range_end < max a.start a.range_start = omega arith in
    past_step self.regex.now.meta (g.S.Input.text self.input.haystack) a self.state self.wanted c.if-self.false _ refl refl past

pub returns-in-Err-clause-step : goal.returns-in-Err-clause-step
returns-in-Err-clause-step g c =
    let self = c.args.self.now in
    let a = self.input.config in
    let inside : max a.start a.range_start ≤ a.range_end = omega arith in
    let at = rw (c.haystack.ensures, c.get_range-range_end.ensures.1) at c.advance_position-next.ensures.value in
    let onward = rw c.get_range-range_end.ensures.1 at c.advance_position-next.ensures.after in
    failed_step self.regex.now.meta (g.S.Input.text self.input.haystack) a self.state self.wanted c.if-self.false inside self.input.fits.range_end.0 c.in-Err.error _ _
    c.advance_position-next.result c.in-Err.ensures.limits refl c.set_start.ensures.config at onward
