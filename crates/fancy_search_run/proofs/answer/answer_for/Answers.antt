use Rattle.fancy_search_run.proofs.answer.answer_for.Goals as goal

-- what is printed does not depend on the text
pub returns-in-Print : goal.returns-in-Print
returns-in-Print c = rw c.in-Print.is (c.print.ensures c.args.text.now)
