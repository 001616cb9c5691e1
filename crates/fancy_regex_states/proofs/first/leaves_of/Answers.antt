use Rattle.std.proofs.Common.{false, arith, get_or}
use Rattle.std.proofs.lemmas.List.{get_or_default}
use Rattle.fancy_regex_states.specs.declared.atom.Leaf.TheVariants.{Any}
use Rattle.fancy_regex_states.specs.declared.state.State.TheVariants.{Read, Match}
use Rattle.fancy_regex_states.proofs.FirstLemmas.{among_next, among_all}
use Rattle.fancy_regex_states.proofs.first.leaves_of.Goals as goal

pub loop-i-preserved : goal.loop-i-preserved
loop-i-preserved c =
    let here = get_or_default c.args.states.now (get_or c.args.numbers.now c.loop-i.i 0) (Read (Any false false) 0) Match (omega (arith, c.if-number-states.false)) in
    among_next c.args.states.now c.args.numbers.now c.loop-i.leaves.items c.add_leaf.new.leaves.items c.loop-i.i c.in_ok-add_leaf.ensures.extends c.loop-i.invariant
    (rw here at (c.in_ok-add_leaf.ensures.among c.if-not-branch.false))

pub returns : goal.returns
returns c = among_all c.args.states.now c.args.numbers.now c.loop-i.leaves.items c.loop-i.i (omega (arith, c.loop-i-test.false)) c.loop-i.invariant
