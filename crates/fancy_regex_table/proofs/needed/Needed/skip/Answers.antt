use Rattle.std.proofs.Common.{◌<◌, true, length}
use Rattle.fancy_regex_stops.specs.Stops.{Covers}
use Rattle.fancy_regex_table.proofs.MisfitLemmas.{short_passed, pair_passed}
use Rattle.fancy_regex_table.proofs.needed.Needed.skip.Goals as goal

pub returns-in-None-clause-passed : goal.returns-in-None-clause-passed
returns-in-None-clause-passed c classes marks i low less =
    let it = c.args.self.now in
    short_passed classes it c.args.bytes.now i marks (c.until.ensures.short it.others it.passes_short it.covered i low less)

pub returns-in-Some-clause-passed : goal.returns-in-Some-clause-passed
returns-in-Some-clause-passed c classes marks i low less =
    let it = c.args.self.now in
    let covers : Covers c.in-Some.next it.next_others true = it.next_covered c.in-Some.next c.in-Some.is in
    let long : 1 < length it.string.items = rw c.in-Some.is at marks.has_second in
    pair_passed classes it c.args.bytes.now i marks long (c.pairs_until.ensures.short it.others it.next_others it.passes_short it.covered covers i low less)
