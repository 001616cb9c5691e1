use Rattle.std.proofs.Common.{rules, chars, sym, ap, ◌∙◌, arith, Some}
use Rattle.fancy_regex_template.proofs.NumberLemmas.{number_none, number_start, number_more, number_end}
use Rattle.fancy_regex_template.proofs.numbers.leading_number.Goals as goal

pub loop-longer-init : goal.loop-longer-init
loop-longer-init c =
    (search rules, c.in_ok-number.ensures.shorter, number_start c.in_ok-number.number (chars c.args.text.now) (chars c.in_ok-number.rest.now) c.in_ok-number.ensures.value)

pub loop-longer-preserved : goal.loop-longer-preserved
loop-longer-preserved c =
    let l = c.loop-longer in (
      search rules,
      omega (arith, l.invariant.1, c.in-Some.ensures.shorter),
      l.invariant.2 ∙ ap Some (number_more l.number c.in-Some.longer (chars l.rest.now) (chars c.in-Some.after.now) c.in-Some.ensures.value),
    )

pub returns : goal.returns
returns c =
    let l = c.loop-longer in
    record { value = sym (l.invariant.2 ∙ ap Some (number_end l.number (chars l.rest.now) c.in_default.ensures.value)); shorter = l.invariant.1 }

pub returns-in_err-number-clause-value : goal.returns-in_err-number-clause-value
returns-in_err-number-clause-value c = rw c.from_residual.ensures (number_none (chars c.args.text.now) c.in_err-number.ensures.value)
