use Rattle.fancy_regex_table.specs.Making.{parts_of}
use Rattle.fancy_regex_table.proofs.MakingLemmas.{homes_more}
use Rattle.fancy_regex_table.proofs.begun.homes_of.Goals as goal
use Rattle.fancy_regex_table.proofs.begun.homes_of.Goals.{then-not-is_home+in_ok-home+in_ok-push, else-not-is_home}

pub loop-k-preserved : goal.loop-k-preserved
loop-k-preserved c =
    elim c.if-not-is_home.branch [
      | then-not-is_home+in_ok-home+in_ok-push w ↦
          rw (w.homes-is, w.in_ok-push.ensures.items)
          (homes_more (parts_of c.args.pattern.now) c.args.columns.now c.loop-k.homes.items w.in_ok-home.home c.loop-k.invariant w.in_ok-home.ensures.1)
      | else-not-is_home w ↦ rw w.homes-is c.loop-k.invariant
    ]
