use Rattle.std.proofs.Common.{arith}
use Rattle.fancy_regex_table.proofs.TargetLemmas.{union_more}
use Rattle.fancy_regex_table.proofs.target.add_all.Goals as goal

pub loop-i-preserved : goal.loop-i-preserved
loop-i-preserved c =
    union_more c.args.states.now c.args.others.now c.args.list.now.items c.loop-i.list.items c.add_new.new.list.items c.loop-i.i
    (omega arith) c.loop-i.invariant c.in_ok-add_new.ensures
