use Rattle.std.proofs.Common.{◌∙◌, sym, arith, false}
use Rattle.std.proofs.lemmas.List.{get_or_default}
use Rattle.fancy_regex_states.specs.declared.atom.Leaf.TheVariants.{Any}
use Rattle.fancy_regex_states.specs.declared.state.State.TheVariants.{Read, Match}
use Rattle.fancy_regex_table.proofs.CloseLemmas.{so_far_repeated, so_far_followed, so_far_ended}
use Rattle.fancy_regex_table.proofs.close.close.Goals as goal

pub states-preserved-then-not-insert : goal.states-preserved-then-not-insert
states-preserved-then-not-insert c =
    so_far_repeated c.args.states.now c.args.before c.args.after c.args.from.now c.states.seen c.insert.new.self c.states.stack.items c.pop.new.self.items
    c.states.reads.items c.in-Some.id c.states.invariant c.in-Some.ensures.items (c.insert.ensures.old c.if-not-insert.true) c.insert.ensures.added

pub returns-then-branch : goal.returns-then-branch
returns-then-branch c =
    let here = get_or_default c.args.states.now c.in-Some.id (Read (Any false false) 0) Match (omega (arith, c.if-id-states.false)) in
    so_far_ended c.args.states.now c.args.before c.args.after c.args.from.now c.states.seen c.states.stack.items c.pop.new.self.items
    c.states.reads.items c.follow.new.reads.items c.in-Some.id c.states.invariant c.in-Some.ensures.items (omega (arith, c.if-id-states.false))
    (rw here at (sym c.in_ok-follow.ensures.is_final ∙ c.if-branch.true)) (rw here at c.in_ok-follow.ensures.reads)

pub states-preserved : goal.states-preserved
states-preserved c =
    let here = get_or_default c.args.states.now c.in-Some.id (Read (Any false false) 0) Match (omega (arith, c.if-id-states.false)) in
    so_far_followed c.args.states.now c.args.before c.args.after c.args.from.now c.states.seen c.insert.new.self c.states.stack.items c.pop.new.self.items
    c.follow.new.stack.items c.states.reads.items c.follow.new.reads.items c.in-Some.id c.states.invariant c.in-Some.ensures.items
    (omega (arith, c.if-id-states.false)) c.insert.ensures.added
    (rw here at (sym c.in_ok-follow.ensures.is_final ∙ c.if-branch.false)) (rw here at c.in_ok-follow.ensures.stack) (rw here at c.in_ok-follow.ensures.reads)
