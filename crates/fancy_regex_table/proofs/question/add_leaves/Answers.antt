use Rattle.std.proofs.Common.{false, List, Contains, subst, sym, arith}
use Rattle.std.proofs.lemmas.List.{take_all}
use Rattle.fancy_regex_states.specs.declared.atom.Leaf.{Leaf}
use Rattle.fancy_regex_states.specs.declared.atom.Leaf.TheVariants.{Any}
use Rattle.fancy_regex_table.proofs.QuestionLemmas.{asked_more}
use Rattle.fancy_regex_table.proofs.question.add_leaves.Goals as goal

pub loop-i-preserved : goal.loop-i-preserved
loop-i-preserved c = record {
  kept = λ question there. c.in_ok-add_leaf.ensures.kept question (c.loop-i.invariant.kept question there);
  asked = asked_more c.args.reader.now.unicode c.args.reader.now.matchers.now c.args.leaves.now c.loop-i.i (Any false false) c.loop-i.questions.items
      c.add_leaf.new.questions.items c.loop-i-test.true c.in_ok-add_leaf.ensures.kept c.loop-i.invariant.asked c.in_ok-add_leaf.ensures.asked;
}

pub returns-clause-asked : goal.returns-clause-asked
returns-clause-asked c leaf there =
    c.loop-i.invariant.asked leaf
    (subst (λ (l : List Leaf). Contains l leaf) (sym (take_all c.loop-i.i c.args.leaves.now (omega (arith, c.loop-i-test.false)))) there)
