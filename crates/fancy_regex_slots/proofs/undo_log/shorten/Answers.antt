use Rattle.std.proofs.Common.{sym}
use Rattle.fancy_regex_slots.proofs.ShortenLemmas.{shortened}
use Rattle.fancy_regex_slots.proofs.undo_log.shorten.Goals as goal

pub returns : goal.returns
returns c =
    shortened c.args.values.now c.copy_from_slice.new.self c.undo.new.values c.args.log.now.items c.deref.result.now c.deref_mut.result.now c.log_changes-written.new.log _ c.truncate.new.self.items c.args.log.now.len c.args.start c.log_changes-written.result
    (sym c.args.log.now.ok.0) c.requires.long c.copy_from_slice.ensures.after c.deref.ensures.value c.deref_mut.ensures.value c.undo.ensures
    c.log_changes-written.ensures.count c.log_changes-written.ensures.undone c.log_changes-written.ensures.logged c.log_changes-written.auto.log c.requires.logged c.truncate.ensures.items
