use Rattle.std.proofs.Common.{arith}
use Rattle.fancy_regex_states.proofs.FirstLemmas.{reached_in}
use Rattle.fancy_regex_states.proofs.SecondLemmas.{refuse_all}
use Rattle.fancy_regex_states.proofs.second.refused_second.Goals as goal

pub returns : goal.returns
returns c mark small marked q from =
    let numbers = c.in-Some.reached.items in
    let closed = rw c.in-Some.is at c.in_ok-reached.ensures in
    refuse_all c.args.unicode c.args.matchers.now c.args.states.now numbers c.loop-i.refused c.loop-i.i (omega (arith, c.loop-i-test.false, c.len-i-end.ensures)) c.loop-i.invariant
    q mark (reached_in c.args.states.now c.args.entry numbers closed.0 closed.1 from) small marked
