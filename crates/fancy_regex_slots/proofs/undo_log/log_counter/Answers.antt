use Rattle.std.proofs.Common.{◌∙◌, refl}
use Rattle.fancy_regex_slots.proofs.LogLemmas.{memory-logged, memory-logged-twice, one-of-two, sound-below, sound-logged, sound-logged-twice, write-on-top}
use Rattle.fancy_regex_slots.proofs.undo_log.log_counter.Goals as goal

pub bound_log-requires-clause-log : goal.bound_log-requires-clause-log
bound_log-requires-clause-log c = sound-below c.args.values.now c.args.values.now c.args.log.now.items c.args.branches.now c.args.branches.now refl refl c.requires.sound

pub returns-clause-memory : goal.returns-clause-memory
returns-clause-memory c =
    memory-logged-twice c.args.values.now c.bound_log.new.log.items c.push.new.self.items c.push-2.new.self.items c.args.branches.now c.args.slot c.args.lowest c.bound_log.ensures.sound
    c.in_ok-push.ensures.items c.in_ok-push-2.ensures.items
    ∙ c.bound_log.ensures.memory

pub returns-clause-sound : goal.returns-clause-sound
returns-clause-sound c =
    sound-logged-twice c.args.values.now c.bound_log.new.log.items c.push.new.self.items c.push-2.new.self.items c.args.branches.now _ _ c.requires.slot c.requires.slot c.bound_log.ensures.sound
    c.bound_log.ensures.two_more c.in_ok-push.ensures.items c.in_ok-push-2.ensures.items

pub returns-clause-on_top : goal.returns-clause-on_top
returns-clause-on_top c =
    write-on-top c.args.values.now c.bound_log.new.log.items c.push.new.self.items c.push-2.new.self.items c.args.branches.now _ _ c.bound_log.ensures.sound
    c.in_ok-push.ensures.items c.in_ok-push-2.ensures.items

-- only the first entry was logged
pub returns-in_err-push-2-clause-memory : goal.returns-in_err-push-2-clause-memory
returns-in_err-push-2-clause-memory c =
    memory-logged c.args.values.now c.bound_log.new.log.items c.push-2.new.self.items c.args.branches.now c.args.slot c.requires.slot c.bound_log.ensures.sound (c.in_err-push-2.ensures.items ∙ c.in_ok-push.ensures.items)
    ∙ c.bound_log.ensures.memory

pub returns-in_err-push-2-clause-sound : goal.returns-in_err-push-2-clause-sound
returns-in_err-push-2-clause-sound c =
    let marks = one-of-two c.args.values.now c.bound_log.new.log.items c.args.branches.now c.bound_log.ensures.sound c.bound_log.ensures.two_more in
    sound-logged c.args.values.now c.bound_log.new.log.items c.push-2.new.self.items c.args.branches.now _ c.requires.slot c.bound_log.ensures.sound marks (c.in_err-push-2.ensures.items ∙ c.in_ok-push.ensures.items)
