use Rattle.std.proofs.Common.{arith}
use Rattle.fancy_regex_slots.proofs.LogLemmas.{mark-inside}
use Rattle.fancy_regex_slots.proofs.ShortenLemmas.{from-mark, memory-shortened, shortened-none, sound-shortened, two-more}
use Rattle.fancy_regex_slots.proofs.undo_log.bound_top.Goals as goal

pub overflow_sub-len : goal.overflow_sub-len
overflow_sub-len c =
    let inside = mark-inside _ _ _ c.requires.log.marks in
    omega (arith, inside, c.segment_start-start.ensures, c.len.ensures, c.args.log.now.ok.0)

pub returns-then-len-start-ge-MANY-clause-memory : goal.returns-then-len-start-ge-MANY-clause-memory
returns-then-len-start-ge-MANY-clause-memory c =
    memory-shortened _ _ _ c.args.branches.now c.requires.log (from-mark _ _ _ _ _ c.segment_start-start.ensures c.bound_segment.ensures) (mark-inside _ _ _ c.requires.log.marks)

pub returns-then-len-start-ge-MANY-clause-sound : goal.returns-then-len-start-ge-MANY-clause-sound
returns-then-len-start-ge-MANY-clause-sound c =
    sound-shortened _ _ _ c.args.branches.now c.requires.log (from-mark _ _ _ _ _ c.segment_start-start.ensures c.bound_segment.ensures)

pub returns-then-len-start-ge-MANY-clause-two_more : goal.returns-then-len-start-ge-MANY-clause-two_more
returns-then-len-start-ge-MANY-clause-two_more c =
    two-more _ _ _ c.args.branches.now c.requires.log (from-mark _ _ _ _ _ c.segment_start-start.ensures c.bound_segment.ensures)

pub returns-else-len-start-ge-MANY-clause-sound : goal.returns-else-len-start-ge-MANY-clause-sound
returns-else-len-start-ge-MANY-clause-sound c =
    let inside = mark-inside _ _ _ c.requires.log.marks in
    sound-shortened _ _ _ c.args.branches.now c.requires.log
    (shortened-none _ _ _ inside (omega (arith, inside, c.segment_start-start.ensures, c.len.ensures, c.args.log.now.ok.0)) c.requires.log.logged)

pub returns-else-len-start-ge-MANY-clause-two_more : goal.returns-else-len-start-ge-MANY-clause-two_more
returns-else-len-start-ge-MANY-clause-two_more c =
    let inside = mark-inside _ _ _ c.requires.log.marks in
    two-more _ _ _ c.args.branches.now c.requires.log
    (shortened-none _ _ _ inside (omega (arith, inside, c.segment_start-start.ensures, c.len.ensures, c.args.log.now.ok.0)) c.requires.log.logged)
