use Rattle.fancy_regex_linear.proofs.FactCodeLemmas.{closed}
use Rattle.fancy_regex_linear.proofs.facts.close.Goals as goal

pub returns-then-place-len : goal.returns-then-place-len
returns-then-place-len c = λ before after at is. closed c.args.is_group before after c.args.call c.args.place c.args.found.now.items c.if-is_group.true at is
