use Rattle.fancy_regex.proofs.SetStartLemmas.{marked_only}
use Rattle.fancy_regex.proofs.set_starts.known_starts.Goals as goal

pub returns-in-Ok-Some-clause-starts : goal.returns-in-Ok-Some-clause-starts
returns-in-Ok-Some-clause-starts c =
    marked_only c.args.options.now.options c.args.pattern.now c.in-Ok-Some.set c.table.result.now c.table.ensures (rw c.in-Ok-Some.field-0-is at c.in-Ok-Some.ensures.members)
