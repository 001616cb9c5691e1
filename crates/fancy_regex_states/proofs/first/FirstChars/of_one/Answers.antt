use Rattle.fancy_regex_states.proofs.FirstLemmas.{reached_in}
use Rattle.fancy_regex_states.proofs.first.FirstChars.of_one.Goals as goal

pub returns : goal.returns
returns c =
    let closed = rw c.in-Some.is at c.in_ok-reached.ensures in
    let all = rw (c.in-Some-2.is, c.deref.ensures.value) at c.in_ok-leaves.ensures in
    record {
      leaves = λ q from. all q (reached_in c.args.states.now c.args.entry c.in-Some.reached.items closed.0 closed.1 from);
      ascii = rw c.deref-2.ensures.value at c.ascii_of-ascii.ensures;
      second = tt;
    }
