use Rattle.std.proofs.Common.{refl, inr, arith, length}
use Rattle.std.proofs.lemmas.Option.{slice_get_read}
use Rattle.fancy_regex_table.proofs.table.Table.start_at.Goals as goal

pub returns-then-it-place : goal.returns-then-it-place
returns-then-it-place c =
    let fresh = c.args.self.now.fresh.items in
    inr (
      refl,
      (
        c.index-it.result.now.before,
        record {
          place = c.loop-i.i;
          row = c.index-it.result.now;
          is_there = slice_get_read fresh (length fresh) c.loop-i.i c.index-it.result.now refl (omega (arith, c.loop-i-test.true, c.len-i-end.ensures)) c.index-it.ensures;
          sort_is = refl;
          number_is = c.if-it-place.true;
        },
      ),
    )
