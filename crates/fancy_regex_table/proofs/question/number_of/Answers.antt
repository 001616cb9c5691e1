use Rattle.std.proofs.Common.{◌+◌, ◌∙◌, ap, sym, arith, drop, map}
use Rattle.fancy_regex_table.specs.Questions.{answer, with_answer, number_from}
use Rattle.fancy_regex_table.specs.declared.question.Question.{Question}
use Rattle.fancy_regex_table.specs.declared.question.Question.TheVariants.{IsWord}
use Rattle.fancy_regex_table.proofs.QuestionLemmas.{number_more, number_done}
use Rattle.fancy_regex_table.proofs.question.number_of.Goals as goal

pub loop-i-preserved : goal.loop-i-preserved
loop-i-preserved c =
    let questions = c.args.questions.now in
    let f = λ (q : Question). answer c.args.unicode c.args.matchers.now q c.args.c in
    ap (λ n. number_from n (map f (drop (c.loop-i.i + 1) questions))) (c.with_answer-number.ensures ∙ ap (with_answer c.loop-i.number) c.answer-yes.ensures)
    ∙ number_more f questions c.loop-i.i IsWord c.loop-i.number c.loop-i-test.true
    ∙ c.loop-i.invariant

pub returns : goal.returns
returns c =
    let f = λ (q : Question). answer c.args.unicode c.args.matchers.now q c.args.c in
    sym (number_done f c.args.questions.now c.loop-i.i c.loop-i.number (omega (arith, c.loop-i-test.false))) ∙ c.loop-i.invariant
