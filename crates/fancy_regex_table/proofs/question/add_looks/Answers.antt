use Rattle.fancy_regex_table.proofs.QuestionLemmas.{looks_asked}
use Rattle.fancy_regex_table.proofs.question.add_looks.Goals as goal

pub returns-clause-asked : goal.returns-clause-asked
returns-clause-asked c =
    looks_asked c.args.reader.now.unicode c.args.reader.now.matchers.now c.args.leaves c.add_look.new.questions.items c.add_look-2.new.questions.items
    c.add_look-3.new.questions.items c.add_look-4.new.questions.items c.in_ok-add_look-2.ensures.kept c.in_ok-add_look-3.ensures.kept
    c.in_ok-add_look-4.ensures.kept c.in_ok-add_look.ensures.asked c.in_ok-add_look-2.ensures.asked c.in_ok-add_look-3.ensures.asked
    c.in_ok-add_look-4.ensures.asked
