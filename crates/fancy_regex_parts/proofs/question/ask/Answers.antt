use Rattle.std.proofs.Common.{◌∙◌, arith}
use Rattle.fancy_regex_class.specs.Looks.{looked_text}
use Rattle.fancy_regex_parts.proofs.LoopLemmas.{known_cap}
use Rattle.fancy_regex_parts.proofs.question.ask.Goals as goal

pub returns-in-Ok-clause-answer : goal.returns-in-Ok-clause-answer
returns-in-Ok-clause-answer c view ways has true_of = (c.in-Ok.ensures.answer view ways has true_of).0

pub returns-in-Ok-clause-leaves : goal.returns-in-Ok-clause-leaves
returns-in-Ok-clause-leaves c =
    let paid = c.search.ensures.paid in
    record {
      remembers = λ view ways has true_of. (c.in-Ok.ensures.answer view ways has true_of).1;
      of_text = paid.memory;
      base = paid.base;
      stack = c.in-Ok.ensures.stack;
      looks = paid.looks;
    }

pub returns-in-Err-clause-leaves : goal.returns-in-Err-clause-leaves
returns-in-Err-clause-leaves c =
    let paid = c.search.ensures.paid in
    record {
      remembers = λ view ways has true_of. c.forget.ensures.remembers c.args.context.now ways;
      of_text = c.forget.ensures.of_text c.args.context.now (looked_text c.args.text.now) paid.memory.width;
      base = c.forget.ensures.base ∙ paid.base;
      stack = c.forget.ensures.stack;
      looks = paid.looks;
    }

pub returns-in-Ok-clause-at_most : goal.returns-in-Ok-clause-at_most
returns-in-Ok-clause-at_most c =
    let paid = c.search.ensures.paid in
    let cap = known_cap c.args.context.now (looked_text c.args.text.now) c.args.memory.now.recall.base _ paid.memory paid.base in
    omega (arith, paid.counted, cap)

pub returns-in-Err-clause-at_most : goal.returns-in-Err-clause-at_most
returns-in-Err-clause-at_most c =
    let paid = c.search.ensures.paid in
    let cap = known_cap c.args.context.now (looked_text c.args.text.now) c.args.memory.now.recall.base _ paid.memory paid.base in
    omega (arith, paid.counted, cap)
