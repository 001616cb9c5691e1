use Rattle.std.proofs.Common.{arith, subst, sym, take, Vec, List, ℕ, ◌+◌}
use Rattle.std.specs.declared.alloc.Global.{Global}
use Rattle.std.proofs.lemmas.List.{take_all}
use Rattle.fancy_regex_table.specs.Questions.{AreBits}
use Rattle.fancy_regex_table.specs.declared.question.Question.{Question}
use Rattle.fancy_regex_table.specs.declared.question.Question.TheVariants.{IsWord}
use Rattle.fancy_regex_table.proofs.QuestionLemmas.{no_bits, bits_more}
use Rattle.fancy_regex_table.proofs.question.all_bits.Goals as goal

pub loop-i-init : goal.loop-i-init
loop-i-init c = no_bits c.args.reader.now.unicode c.args.reader.now.matchers.now c.args.questions.now c.new-all.result.items c.new-all.ensures.items

pub loop-i-preserved : goal.loop-i-preserved
loop-i-preserved c =
    subst (λ (all : List (Vec ℕ Global)). AreBits c.args.reader.now.unicode c.args.reader.now.matchers.now (take (c.loop-i.i + 1) c.args.questions.now) all) (sym c.in_ok-push.ensures.items)
    (bits_more c.args.reader.now.unicode c.args.reader.now.matchers.now c.args.questions.now c.loop-i.i IsWord c.loop-i.all.items c.in_ok-bits.bits c.loop-i-test.true
    c.loop-i.invariant c.in_ok-bits.ensures)

pub returns : goal.returns
returns c =
    subst (λ (questions : List Question). AreBits c.args.reader.now.unicode c.args.reader.now.matchers.now questions c.loop-i.all.items)
    (take_all c.loop-i.i c.args.questions.now (omega (arith, c.loop-i-test.false))) c.loop-i.invariant
