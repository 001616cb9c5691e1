use Rattle.fancy_regex_table.proofs.MakingLemmas.{readings_more}
use Rattle.fancy_regex_table.proofs.begun.readings_of.Goals as goal
use Rattle.fancy_regex_table.proofs.begun.readings_of.Goals.{then-is_none+in_ok-reading+in-Some+else-work-steps+in_ok-push, then-is_none+in_ok-reading+in_default, else-is_none}

pub loop-k-preserved : goal.loop-k-preserved
loop-k-preserved c =
    elim c.if-is_none.branch [
      | then-is_none+in_ok-reading+in-Some+else-work-steps+in_ok-push w ↦
          rw (w.readings-is, w.in_ok-push.ensures.items)
          (readings_more c.args.pattern.now.reader.states.now c.args.row.now.before c.args.row.now.own.now c.args.row.now.later.now c.loop-k.readings.items w.in-Some.reading
          c.loop-k.invariant (rw w.in-Some.is at w.in_ok-reading.ensures).1)
      | then-is_none+in_ok-reading+in_default w ↦ rw w.readings-is c.loop-k.invariant
      | else-is_none w ↦ rw w.readings-is c.loop-k.invariant
    ]
