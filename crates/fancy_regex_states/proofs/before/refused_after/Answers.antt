use Rattle.std.proofs.Common.{◌≡◌, ◌<◌, ◌≤◌, ℕ, false, refl, sym, subst, arith, ◌∙◌, ⊎_elim, length-set}
use Rattle.std.proofs.lemmas.List.{get_or-set_same, get_or-set_other}
use Rattle.std.proofs.lemmas.Bool.{cases_lt}
use Rattle.fancy_regex_states.specs.Before.{CannotBeginAfter}
use Rattle.fancy_regex_states.proofs.before.refused_after.Goals as goal

pub loop-code-preserved : goal.loop-code-preserved
loop-code-preserved c =
    let refused = c.loop-code.refused in
    let code : ℕ = c.loop-code.code in
    let is_refused = c.in_ok-is_refused.is_refused in
    let long = c.loop-code.invariant.long in
    record {
      long = length-set refused code is_refused ∙ long;
      says = λ k low marked. ⊎_elim
          (λ (less : k < code). c.loop-code.invariant.says k less (sym (get_or-set_other refused code k is_refused false (λ e. omega arith)) ∙ marked))
          (λ (high : code ≤ k).
          let same : k ≡ code = omega arith in
          let here = rw same at marked in
          subst (CannotBeginAfter c.args.unicode c.args.matchers.now c.args.states.now c.args.entry) (sym same)
          (c.in_ok-is_refused.ensures (sym (get_or-set_same refused code is_refused false (omega (arith, long, c.loop-code-test.true))) ∙ here) code refl))
          (cases_lt k code);
    }

pub returns : goal.returns
returns c = record {
  ascii = λ k low marked. c.loop-code.invariant.says k (omega (arith, low, c.loop-code-test.false)) marked;
  wide = λ k high. c.in_ok-is_none_wide.ensures c.if-not-is_none_wide.false k high;
}
