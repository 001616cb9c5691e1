use Rattle.fancy_regex_table.proofs.SortLemmas.{asks_test, asks_more}
use Rattle.fancy_regex_table.proofs.sort.with_state.Goals as goal

pub returns-in_ok-leaves-in-Look-clause-more : goal.returns-in_ok-leaves-in-Look-clause-more
returns-in_ok-leaves-in-Look-clause-more c =
    rw c.with_test.ensures (asks_more c.args.asked c.in-Look.test c.in_ok-leaves-in-Look.leaves c.in_ok-leaves-in-Look.ensures.kept)

pub returns-in_ok-leaves-in-Look-clause-state : goal.returns-in_ok-leaves-in-Look-clause-state
returns-in_ok-leaves-in-Look-clause-state c =
    rw (c.with_test.ensures, c.in-Look.is) (asks_test c.args.asked c.in-Look.test c.in_ok-leaves-in-Look.leaves c.in_ok-leaves-in-Look.ensures.leaf)
