use Rattle.std.proofs.Common.{rules, chars, arith}
use Rattle.fancy_regex_text.proofs.SpanLemmas.{count_start, count_next, count_end}
use Rattle.fancy_regex_text.proofs.names.digits.Goals as goal

pub loop-digit-init : goal.loop-digit-init
loop-digit-init c = (c.utf8.text, omega arith, count_start (chars c.args.text.now))

pub loop-digit-preserved : goal.loop-digit-preserved
loop-digit-preserved c =
    let l = c.loop-digit in (
      search rules,
      omega (arith, l.invariant.1, c.in-Some.ensures.shorter),
      rw c.append_digit.ensures (count_next l.number (chars c.args.text.now) (chars l.rest.now) (chars c.in-Some.after.now) c.in-Some.digit
          c.in-Some.ensures.value c.in-Some.ensures.digit l.invariant.2),
    )

pub returns-clause-value : goal.returns-clause-value
returns-clause-value c =
    let l = c.loop-digit in
    count_end l.number (chars c.args.text.now) (chars l.rest.now) c.in_default.ensures.value l.invariant.2
