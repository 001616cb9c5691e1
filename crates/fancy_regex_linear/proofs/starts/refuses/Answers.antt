use Rattle.fancy_regex_linear.proofs.RefusalLemmas.{table_says}
use Rattle.fancy_regex_linear.proofs.starts.refuses.Goals as goal

pub returns-in-Some : goal.returns-in-Some
returns-in-Some c e states entry is =
    table_says c.args.unicode c.args.matchers.now states entry c.args.after c.in-Some.first (rw c.in-Some.is at is) (λ table. c.refuses.ensures e states entry table)
