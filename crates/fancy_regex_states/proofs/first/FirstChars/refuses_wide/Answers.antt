use Rattle.fancy_regex_states.specs.First.{state_at}
use Rattle.fancy_regex_states.proofs.FirstLemmas.{wide_refused}
use Rattle.fancy_regex_states.proofs.first.FirstChars.refuses_wide.Goals as goal

pub returns : goal.returns
returns c said states entry table after wide q from =
    wide_refused c.args.unicode c.args.matchers.now c.args.self.now.leaves.items (rw c.deref.ensures.value at (c.are_ascii.ensures said))
    after wide (state_at states q) (table.leaves q from)
