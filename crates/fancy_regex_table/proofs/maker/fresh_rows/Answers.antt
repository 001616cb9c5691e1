use Rattle.std.proofs.Common.{get_or}
use Rattle.fancy_regex_table.proofs.MakerLemmas.{fresh_more, fresh_rows_more}
use Rattle.fancy_regex_table.proofs.maker.fresh_rows.Goals as goal
use Rattle.fancy_regex_table.proofs.maker.fresh_rows.Goals.{in-Some+in_ok-push, in_default}

pub loop-i-preserved : goal.loop-i-preserved
loop-i-preserved c =
    elim c.match-small.branch [
      | in-Some+in_ok-push w ↦
          rw (w.fresh-is, w.in_ok-push.ensures.items)
          (fresh_rows_more c.loop-i.rows.list.items c.number_of.new.self.list.items c.loop-i.fresh.items
          (get_or c.args.homes.now c.loop-i.i c.index-homes-i.result).before w.in-Some.row
          c.loop-i.invariant c.number_of.ensures.grows (rw w.in-Some.ensures at c.in_ok-found.ensures.number))
      | in_default w ↦
          rw w.fresh-is (fresh_more c.loop-i.rows.list.items c.number_of.new.self.list.items c.loop-i.fresh.items c.number_of.ensures.grows c.loop-i.invariant)
    ]
