use Rattle.std.proofs.Common.{List, Vec, Contains, subst, sym}
use Rattle.std.specs.declared.alloc.Global.{Global}
use Rattle.std.proofs.lemmas.Bool.{both_ways}
use Rattle.std.proofs.lemmas.List.Elements.{Contains-push}
use Rattle.fancy_regex_table.specs.declared.question.Question.{Question}
use Rattle.fancy_regex_table.specs.declared.question.Question.TheVariants.{IsWord}
use Rattle.fancy_regex_table.proofs.QuestionLemmas.{asked_kept}
use Rattle.fancy_regex_table.proofs.question.questions_of.Goals as goal
use Rattle.fancy_regex_table.proofs.question.questions_of.Goals.{then-asked+in_ok-push, else-asked}

pub returns : goal.returns
returns c = record {
  reads = λ leaf there.
      asked_kept c.args.reader.now.unicode c.args.reader.now.matchers.now c.add_leaves.new.questions.items c.add_looks.new.questions.items leaf
      c.in_ok-add_looks.ensures.kept (c.in_ok-add_leaves.ensures.asked leaf there);
  looks = c.in_ok-add_looks.ensures.asked;
  words = λ on.
      let first : Contains c.if-asked.questions.items IsWord =
      elim c.if-asked.branch [
        | then-asked+in_ok-push w ↦
            subst (λ (v : Vec Question Global). Contains v.items IsWord) (sym w.questions-is)
            (subst (λ (l : List Question). Contains l IsWord) (sym w.in_ok-push.ensures.items) (Contains-push c.new-questions.result.items IsWord))
        | else-asked w ↦ absurd (both_ways c.args.asked.words w.if-asked.false on)
      ] in
      c.in_ok-add_looks.ensures.kept IsWord (c.in_ok-add_leaves.ensures.kept IsWord first);
}
