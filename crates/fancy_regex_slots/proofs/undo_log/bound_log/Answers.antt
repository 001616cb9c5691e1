use Rattle.std.proofs.Common.{arith}
use Rattle.fancy_regex_slots.proofs.LogLemmas.{mark-inside}
use Rattle.fancy_regex_slots.proofs.ShortenLemmas.{shortened-none, sound-shortened, two-more}
use Rattle.fancy_regex_slots.proofs.undo_log.bound_log.Goals as goal

pub returns-else-len-ge-MANY-clause-sound : goal.returns-else-len-ge-MANY-clause-sound
returns-else-len-ge-MANY-clause-sound c =
    let inside = mark-inside _ _ _ c.requires.log.marks in
    sound-shortened _ _ _ c.args.branches.now c.requires.log
    (shortened-none _ _ _ inside (omega (arith, inside, c.if-len-ge-MANY.false, c.len.ensures, c.args.log.now.ok.0)) c.requires.log.logged)

pub returns-else-len-ge-MANY-clause-two_more : goal.returns-else-len-ge-MANY-clause-two_more
returns-else-len-ge-MANY-clause-two_more c =
    let inside = mark-inside _ _ _ c.requires.log.marks in
    two-more _ _ _ c.args.branches.now c.requires.log
    (shortened-none _ _ _ inside (omega (arith, inside, c.if-len-ge-MANY.false, c.len.ensures, c.args.log.now.ok.0)) c.requires.log.logged)
