use Rattle.fancy_regex_linear.proofs.RefusalLemmas.{table_says}
use Rattle.fancy_regex_linear.proofs.starts.refuses_all.Goals as goal

pub returns-in-Some : goal.returns-in-Some
returns-in-Some c e after =
    let context = c.args.context.now in
    table_says context.rules.unicode context.matchers.now context.states.now context.entry after c.in-Some.first (rw c.in-Some.is at c.requires)
    (λ table. c.refuses_all.ensures e context.rules.unicode context.matchers.now context.states.now context.entry after table)
