use Rattle.std.proofs.Common.{arith}
use Rattle.fancy_regex_table.proofs.StepLemmas.{beside_more}
use Rattle.fancy_regex_table.proofs.step.step_beside.Goals as goal

pub loop-i-preserved : goal.loop-i-preserved
loop-i-preserved c =
    beside_more c.args.reader.now.unicode c.args.reader.now.matchers.now c.args.reader.now.states.now c.args.c c.args.reads.now c.args.reads.now c.loop-i.i
    (omega arith) c.args.others.now c.loop-i.nexts.items c.add_next.new.list.items c.loop-i.invariant (rw c.next_of.ensures at c.in_ok-add_next.ensures)
