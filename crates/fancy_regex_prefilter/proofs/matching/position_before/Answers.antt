use Rattle.std.proofs.Common.{◌≡◌, ℕ, suc, ◌+◌, ◌-◌, ◌∙◌, sym, ap, arith}
use Rattle.fancy_regex_prefilter.proofs.BoundaryLemmas.{goes_back, goes_nowhere}
use Rattle.fancy_regex_prefilter.proofs.matching.position_before.Goals as goal

pub loop-back-preserved : goal.loop-back-preserved
loop-back-preserved c =
    let left = c.args.count - (c.loop-back.back + 1) in
    let more : c.args.count - c.loop-back.back ≡ suc left = omega arith in
    c.loop-back.invariant ∙ goes_back c.args.text.now (c.args.count - c.loop-back.back) left c.loop-back.cursor c.in_ok-before.before more c.in_ok-before.ensures

pub returns-in_err-before : goal.returns-in_err-before
returns-in_err-before c =
    let left = c.args.count - (c.loop-back.back + 1) in
    let more : c.args.count - c.loop-back.back ≡ suc left = omega arith in
    c.from_residual.ensures ∙ goes_nowhere c.args.text.now (c.args.count - c.loop-back.back) left c.loop-back.cursor more c.in_err-before.ensures ∙ sym c.loop-back.invariant
