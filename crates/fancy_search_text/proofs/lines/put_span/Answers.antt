use Rattle.std.proofs.Common.{arith}
use Rattle.fancy_search_text.proofs.DigitLemmas.{digits_at_most, span_length, span_written}
use Rattle.fancy_search_text.proofs.lines.put_span.Goals as goal

pub write_digits-last-requires : goal.write_digits-last-requires
write_digits-last-requires c = (omega (arith, digits_at_most c.args.end (omega arith)), c.requires.long)

pub overflow_sub-last : goal.overflow_sub-last
overflow_sub-last c = omega (arith, digits_at_most c.args.end (omega arith), c.write_digits-last.ensures.start)

pub write_digits-requires : goal.write_digits-requires
write_digits-requires c =
    (omega (arith, digits_at_most c.args.start (omega arith), digits_at_most c.args.end (omega arith), c.write_digits-last.ensures.start), omega (arith, c.write_digits-last.auto.buf, c.requires.long, c.write_digits-last.ensures.start))

pub returns-clause-written : goal.returns-clause-written
returns-clause-written c =
    let last = c.write_digits-last in
    let first = c.write_digits in
    span_written c.args.start c.args.end first.result last.result 42 c.args.text.now last.new.buf first.new.buf c.requires.dots
    (omega (arith, digits_at_most c.args.end (omega arith), last.ensures.start)) (omega (arith, last.ensures.start))
    last.ensures.written last.ensures.before first.ensures.written

pub returns-clause-place : goal.returns-clause-place
returns-clause-place c =
    let last = c.write_digits-last in
    omega (arith, span_length c.args.start c.args.end, last.ensures.start, c.write_digits.ensures.start, digits_at_most c.args.end (omega arith))
