use Rattle.std.proofs.Common.{arith}
use Rattle.fancy_regex_table.proofs.WideLemmas.{known_kept, known_set}
use Rattle.fancy_regex_table.proofs.wide_maker.add_class.Goals as goal

pub returns-then-class-lt256-clause-known : goal.returns-then-class-lt256-clause-known
returns-then-class-lt256-clause-known c =
    let reader = c.args.tests.now.reader.now in
    let leaves = c.args.tests.now.leaves.now in
    let asked = c.args.tests.now.asked in
    let questions = c.args.questions.now in
    known_set reader.unicode reader.matchers.now leaves asked questions c.class_for.new.samples.items c.args.by_answers.now c.args.c c.number_of-number.result
    c.in_ok-class.class c.requires.questions c.requires.few c.requires.wide c.number_of-number.ensures (omega arith) c.in_ok-class.ensures.class
    (known_kept reader.unicode reader.matchers.now leaves asked questions c.args.samples.now.items c.class_for.new.samples.items c.args.by_answers.now
    c.class_for.ensures.kept c.requires.known)

pub returns-else-class-lt256-clause-known : goal.returns-else-class-lt256-clause-known
returns-else-class-lt256-clause-known c =
    known_kept c.args.tests.now.reader.now.unicode c.args.tests.now.reader.now.matchers.now c.args.tests.now.leaves.now c.args.tests.now.asked c.args.questions.now
    c.args.samples.now.items c.class_for.new.samples.items c.args.by_answers.now c.class_for.ensures.kept c.requires.known
