use Rattle.std.proofs.Common.{refl}
use Rattle.fancy_regex_slots.proofs.LogLemmas.{counter-restored}
use Rattle.fancy_regex_slots.proofs.undo_log.restore.Goals as goal

pub returns-then-row : goal.returns-then-row
returns-then-row c =
    counter-restored c.args.values.now c.undo.new.values c.args.log.now c.args.row _ c.saturating_add.result
    c.if-row.true (c.requires.counter c.if-row.true) c.requires.mark refl c.saturating_add.ensures c.undo.ensures
