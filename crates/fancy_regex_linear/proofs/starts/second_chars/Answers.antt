use Rattle.std.proofs.Common.{Some, sym, ◌∙◌}
use Rattle.fancy_regex_linear.proofs.RefusalLemmas.{second_says}
use Rattle.fancy_regex_linear.proofs.starts.second_chars.Goals as goal

pub returns-in-Some-refused_second : goal.returns-in-Some-refused_second
returns-in-Some-refused_second c d low marked =
    let context = c.args.context.now in
    let is = sym c.refused_second.ensures ∙ c.in-Some-refused_second.is in
    second_says context.rules.unicode context.matchers.now context.states.now context.entry (Some d) c.in-Some.first (rw c.in-Some.is at c.requires)
    (λ table. (rw is at table.second) d low marked)
